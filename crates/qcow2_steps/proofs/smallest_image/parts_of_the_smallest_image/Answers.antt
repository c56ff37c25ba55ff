use Rattle.qcow2_steps.proofs.NewImages.{first-clusters, first-counters, first-entries, first-length, smallest-reloadable}
use Rattle.qcow2_steps.proofs.smallest_image.parts_of_the_smallest_image.Goals as goal

pub returns : goal.returns
returns g = record {
  header = λ bits order name format low high narrow fits. smallest-reloadable bits order name format low high narrow fits;
  counters = first-counters;
  length = λ h n shaped grown. first-length h shaped n grown;
  raw_entries = first-entries;
  clusters = first-clusters;
}
