-- The kind of run that a lookup finds: stored, zero, unreadable, in the layer below (the backing file), or past the end.
use Rattle.imago_storage.specs.Steps.{Kind, stored, zero_run, special, indirect, at_end}
use Rattle.imago_access.specs.declared.mapping.ShallowMapping.{ShallowMapping}
use Rattle.imago_access.specs.declared.mapping.ShallowMapping.TheVariants as shallow
use Rattle.imago_access.specs.declared.mapping.Mapping.{Mapping}
use Rattle.imago_access.specs.declared.mapping.Mapping.TheVariants as deep

abbrev pub kind_of : ShallowMapping → Kind
kind_of (shallow.Raw storage place writable) = stored
kind_of (shallow.Indirect place writable) = indirect
kind_of (shallow.Zero explicit) = zero_run
kind_of (shallow.Special place) = special
kind_of shallow.Eof = at_end

-- Like `kind_of`, for a lookup through a chain.
abbrev pub deep_kind_of : Mapping → Kind
deep_kind_of (deep.Raw depth storage place writable) = stored
deep_kind_of (deep.Zero explicit) = zero_run
deep_kind_of (deep.Special depth place) = special
deep_kind_of deep.Eof = at_end
