use Rattle.qcow2_alloc.proofs.GuestView.QuietEntries.{metadata_push, metadata-remove, metadata-shortened, covers-more}
use Rattle.qcow2_alloc.proofs.laws.entries_of_metadata_count_one_by_one.Goals as goal

pub returns : goal.returns
returns c = record { pushed = metadata_push; removed = metadata-remove; shortened = metadata-shortened; more = covers-more }
