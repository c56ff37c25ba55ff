use Rattle.qcow2_types.proofs.Worked.Header.{header_pieces}
use Rattle.qcow2_types.proofs.Worked.Headers as headers
use Rattle.qcow2_types.proofs.worked_image.loaded_headers.Goals as goal

pub returns : goal.returns
returns c = record { newer = header_pieces; older = headers.older; older_entries = headers.older_entries; older_bytes = headers.older_bytes; dirty_read = headers.dirty_read; dirty_written = headers.dirty_written }
