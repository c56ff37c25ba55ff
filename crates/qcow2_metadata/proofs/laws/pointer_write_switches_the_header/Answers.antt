use Rattle.qcow2_types.proofs.Switching.HeaderSwitch.{switch-header, first-fields-fit, name-behind}
use Rattle.qcow2_metadata.proofs.laws.pointer_write_switches_the_header.Goals as goal
use Rattle.std.specs.Prelude.{true}

pub returns : goal.returns
returns c = record {
  writing = λ f old new bytes loads only sizes. switch-header true f old new loads only (first-fields-fit true f old new bytes loads only sizes) sizes (name-behind f old loads);
  any = λ writing f old new bytes loads only sizes name. switch-header writing f old new loads only (first-fields-fit writing f old new bytes loads only sizes) sizes name;
}
