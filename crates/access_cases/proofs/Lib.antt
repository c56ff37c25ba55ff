pub mod PreparedRuns
pub mod OwnCauses
pub mod Declining
pub mod FileWrites
pub mod SeenAs
pub mod Repairs
