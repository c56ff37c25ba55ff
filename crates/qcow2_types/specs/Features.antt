-- The numbers of feature types and feature bits, as the feature name extension has them.
use Rattle.std.specs.Prelude.{ℕ}
use Rattle.qcow2_types.specs.declared.features.FeatureType.{FeatureType}
use Rattle.qcow2_types.specs.declared.features.FeatureType.TheVariants.{Incompatible, Compatible, Autoclear}
use Rattle.qcow2_types.specs.declared.features.IncompatibleFeatures.{IncompatibleFeatures}
use Rattle.qcow2_types.specs.declared.features.IncompatibleFeatures.TheVariants.{Dirty, Corrupt, ExternalDataFile, CompressionType, ExtendedL2Entries}
use Rattle.qcow2_types.specs.declared.features.CompatibleFeatures.{CompatibleFeatures}
use Rattle.qcow2_types.specs.declared.features.CompatibleFeatures.TheVariants.{LazyRefcounts}
use Rattle.qcow2_types.specs.declared.features.AutoclearFeatures.{AutoclearFeatures}
use Rattle.qcow2_types.specs.declared.features.AutoclearFeatures.TheVariants.{Bitmaps, RawExternalData}

-- the number of a feature type
abbrev pub kind_of : FeatureType → ℕ
kind_of Incompatible = 0
kind_of Compatible = 1
kind_of Autoclear = 2

-- the bit of a feature in the header's incompatible features
abbrev pub incompatible_bit : IncompatibleFeatures → ℕ
incompatible_bit Dirty = 0
incompatible_bit Corrupt = 1
incompatible_bit ExternalDataFile = 2
incompatible_bit CompressionType = 3
incompatible_bit ExtendedL2Entries = 4

-- the bit of a feature in the header's compatible features
abbrev pub compatible_bit : CompatibleFeatures → ℕ
compatible_bit LazyRefcounts = 0

-- the bit of a feature in the header's autoclear features
abbrev pub autoclear_bit : AutoclearFeatures → ℕ
autoclear_bit Bitmaps = 0
autoclear_bit RawExternalData = 1
