-- The storages that an access may touch: a register, one or all cells of a file, or a data memory.
use Rattle.std.specs.Prelude.{◌==◌, ◌&&◌, Bool, true, false}
use Rattle.std.specs.Option.{option_map_or}
use Rattle.ap_model.specs.declared.storage.Storage.{Storage}
use Rattle.ap_model.specs.declared.storage.Storage.TheVariants as storage
use Rattle.ap_dist.specs.declared.access.Access.{Access}
use Rattle.ap_dist.specs.declared.access.Part.{Part}
use Rattle.ap_dist.specs.declared.access.Part.TheVariants as part

abbrev pub may_be : Part → Storage → Bool
may_be (part.Register reg) (storage.Register other) = reg == other
may_be (part.Cell file index) (storage.Cell other cell) = (file == other) && option_map_or (λ i. i == cell) index true
may_be (part.Memory mem) (storage.Memory other) = mem == other
may_be _ _ = false

abbrev pub touches : Access → Storage → Bool
touches access storage = may_be access.part storage
