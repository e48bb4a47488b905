-- The law, clause by clause.
use Rattle.std.proofs.Common.{◌≡◌, ◌↔◌, ℕ, ◌≤◌, ◌<◌, List, Contains}
use Rattle.ap_bits.specs.declared.card.Card.{Card}
use Rattle.ap_desc.specs.Clean.{IsClean}
use Rattle.ap_desc.specs.declared.design.Design.{Design}
use Rattle.ap_image.specs.declared.image.Image.{Image}
use Rattle.ap_image.specs.declared.trace.Trace.{Trace}
use Rattle.ap_model.proofs.MachineLaws.{clean_is_runnable}
use Rattle.ap_model.specs.declared.state.Entry.{Entry}
use Rattle.ap_model.specs.declared.storage.Storage.{Storage}
use Rattle.ap_model.specs.Cycles.{over}
use Rattle.ap_model.specs.ShownRows.{rows_of}
use Rattle.ap_model.specs.WritesOf.{log_writes, rows_writes, writes_of}
use Rattle.ap_space.specs.Prefix.{IsPrefix, IsSpacedRun, entries_to, one_at_a_time, passed_entries}
use Rattle.ap_space.proofs.Ends.{entries_passed, writes_begin}
use Rattle.ap_space.proofs.Fits.{targets_fit}
use Rattle.ap_space.proofs.Futures.{logged_stands}
use Rattle.ap_space.proofs.Meets.{IsSetting, Setting}
use Rattle.ap_space.proofs.Members.{same_members}
use Rattle.ap_space.proofs.RowRuns.{rows_have}
use Rattle.ap_space.proofs.Runs.{frame_is}

module _ (design : Design) (cards : List Card) (image : Image) (trace : Trace) (c : ℕ) (landings : List ℕ) (drain : ℕ) where
  abbrev setting : Setting
  setting = record { design = design; cards = cards; image = image; trace = trace; c = c; landings = landings; drain = drain }

  setting_is : IsSpacedRun design cards image trace c landings drain → IsSetting setting
  setting_is run = record {
    clean = run.fits.clean;
    runs = clean_is_runnable design cards run.fits;
    spaced = run.spaced;
    fits = targets_fit design cards image trace run.fits run.image_fits run.trace_fits;
    lands = run.lands;
  }

pub law_entries : (design : Design) (cards : List Card) (image : Image) (trace : Trace) (c : ℕ) (landings : List ℕ) (drain : ℕ) (storage : Storage) → IsSpacedRun design cards image trace c landings drain
    → entries_to storage (over design cards image trace c).log ≡ entries_to storage (passed_entries design cards image trace c)
law_entries design cards image trace c landings drain storage run = entries_passed (setting design cards image trace c landings drain) (setting_is design cards image trace c landings drain run) storage

pub law_members : (design : Design) (cards : List Card) (image : Image) (trace : Trace) (c : ℕ) (landings : List ℕ) (drain : ℕ) (entry : Entry) → IsSpacedRun design cards image trace c landings drain
    → Contains (over design cards image trace c).log entry ↔ Contains (passed_entries design cards image trace c) entry
law_members design cards image trace c landings drain entry run =
    same_members (over design cards image trace c).log (passed_entries design cards image trace c) (λ storage. law_entries design cards image trace c landings drain storage run) entry

pub law_writes : (design : Design) (cards : List Card) (image : Image) (trace : Trace) (c : ℕ) (landings : List ℕ) (drain : ℕ) (storage : Storage) → IsSpacedRun design cards image trace c landings drain
    → IsPrefix (writes_of storage (log_writes (over design cards image trace c).log)) (writes_of storage (log_writes (one_at_a_time design cards image trace c).log))
law_writes design cards image trace c landings drain storage run = writes_begin (setting design cards image trace c landings drain) (setting_is design cards image trace c landings drain run) storage

pub law_stands : (design : Design) (cards : List Card) (image : Image) (trace : Trace) (c later : ℕ) (landings : List ℕ) (drain : ℕ) (entry : Entry) → IsSpacedRun design cards image trace c landings drain
    → c ≤ later → Contains (over design cards image trace c).log entry → entry.number < (over design cards image trace later).next
law_stands design cards image trace c later landings drain entry run le listed =
    logged_stands design cards image trace run.fits.clean (frame_is design image landings drain run.fits.clean run.spaced) (targets_fit design cards image trace run.fits run.image_fits run.trace_fits) c later entry le listed

pub law_rows : (design : Design) (cards : List Card) (image : Image) (trace : Trace) (c : ℕ) (storage : Storage) → IsClean design
    → writes_of storage (rows_writes design (rows_of design cards image trace c)) ≡ writes_of storage (log_writes (over design cards image trace c).log)
law_rows design cards image trace c storage clean = rows_have design cards image trace clean storage c
