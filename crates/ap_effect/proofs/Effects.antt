-- What write ports and the transfer show, from the facts of their nets.
use Rattle.std.proofs.Common.{◌≡◌, ℕ, zero, suc, ◌+◌, ◌^◌, ◌<◌, ◌&&◌, Bool, if◌then◌else◌, List, [], ◌∷◌, map, Option, Some, None, refl, sym, ap, ◌∙◌}
use Rattle.std.specs.Prelude.{option_and_then, slice_get}
use Rattle.std.specs.List.{list_any}
use Rattle.std.specs.Option.{option_map_or}
use Rattle.std.proofs.lemmas.Option.{same_Some}
use Rattle.ap_desc.specs.Clean.{IsClean}
use Rattle.ap_desc.specs.Ports.{is_transfer}
use Rattle.ap_desc.specs.Sound.{AreApart}
use Rattle.ap_desc.specs.declared.design.Act.{Act}
use Rattle.ap_desc.specs.declared.design.Arg.{Arg}
use Rattle.ap_desc.specs.declared.design.Design.{Design}
use Rattle.ap_desc.specs.declared.design.Instr.{Instr}
use Rattle.ap_model.specs.Fire.{instr_of}
use Rattle.ap_model.specs.Ports.{writes_through}
use Rattle.ap_model.specs.PortForms.{TargetsByLine}
use Rattle.ap_net.specs.Readings.{Reading}
use Rattle.ap_ctl.specs.Building.{is_on}
use Rattle.ap_ctl.proofs.Bits.{on_of}
use Rattle.ap_effect.specs.declared.transfer.Transfer.{Transfer}
use Rattle.ap_effect.specs.declared.write.Writer.{Writer}
use Rattle.ap_effect.specs.Lines.{line_of, lines_of}
use Rattle.ap_effect.specs.Shown.{AreWritersOf, NetsShowTransfer, PortsShowWrites, net_value, shown_target, shown_write, word_target, word_write}
use Rattle.ap_effect.specs.Writers.{IsOnlyWriter, is_acting, writer_of}
use Rattle.ap_effect.proofs.Matched.{all_off, found, found_place, none_found, whole}
use Rattle.ap_effect.proofs.Shows.{effect_of, index_shown, shows_line, shows_none, target_at, target_by_line, write_at, written_by_line}

-- What a word's line does, where the word matches an instruction.
module _ {X : Type 0} (build : ℕ → ℕ → X) (design : Design) (word : ℕ) (value : Arg → ℕ) (r : Reading) (is_one : Act → Bool) (stage : ℕ) (lt : word < 2 ^ design.word) (apart : AreApart design.word design.instrs)
    (writers : List Writer) (are : AreWritersOf design word value r (lines_of is_one design stage) writers)
    (fires enable : Bool) (at v : ℕ) (is : enable ≡ (fires && list_any (is_acting r) writers))
    (gives : (p : ℕ) (w : Writer) → slice_get writers p ≡ Some w → IsOnlyWriter r writers p → (at ≡ option_map_or (net_value r) w.index 0) × (v ≡ r.read w.value.number)) where
  pub word_shows_none : instr_of design word ≡ None → (if enable then Some (build at v) else None) ≡ (if fires then None else None)
  unfolding instr_of
  word_shows_none e = shows_none build design word value r is_one stage writers fires enable at v (all_off design word value r is_one stage 0 design.instrs writers (whole design word value r is_one stage) (none_found word design.instrs e) are) is

  pub word_shows : (i : Instr) → instr_of design word ≡ Some i → (n : ℕ) × ((if enable then Some (build at v) else None) ≡ (if fires then option_and_then (effect_of build value) (line_of is_one stage (n, i)) else None))
  unfolding instr_of
  word_shows i e =
      let (place, there, m) = found_place word design.instrs i e in
      (0 + place, shows_line build design word value r is_one stage (line_of is_one stage (0 + place, i)) writers fires enable at v (found design word value r is_one stage design.word 0 place design.instrs i writers lt apart (whole design word value r is_one stage) there m are) is gives)

pub ports_show : ((design : Design) → IsClean design → AreApart design.word design.instrs) → PortsShowWrites
ports_show apart design stage word p value old d fires writers bits width nets r clean lt each are s of = go (instr_of design word) refl
  where
    at : ℕ
    at = option_map_or (net_value r) nets.index 0

    v : ℕ
    v = r.read nets.value.number

    gives : (p : ℕ) (w : Writer) → slice_get writers p ≡ Some w → IsOnlyWriter r writers p → (at ≡ option_map_or (net_value r) w.index 0) × (v ≡ r.read w.value.number)
    gives p w there only = (index_shown d old writers bits width nets.index r s each are.index p w there only, are.value.means.holds r s p w there only)

    go : (o : Option Instr) → instr_of design word ≡ o → shown_write r p nets ≡ (if is_on r fires then word_write value p stage o else None)
    go None e = word_shows_none (write_at p) design word value r (writes_through p) stage lt (apart design clean) writers of (is_on r fires) (is_on r nets.enable) at v (on_of are.enable r s) gives e
    go (Some i) e =
        let (n, shows) = word_shows (write_at p) design word value r (writes_through p) stage lt (apart design clean) writers of (is_on r fires) (is_on r nets.enable) at v (on_of are.enable r s) gives i e in
        shows ∙ ap (λ x. if is_on r fires then x else None) (sym (written_by_line p value n stage i))

pub transfer_shows : ((design : Design) → IsClean design → AreApart design.word design.instrs) → ((design : Design) → IsClean design → TargetsByLine design) → NetsShowTransfer
transfer_shows apart targets design stage word value d valid transfers width nets r clean lt are s of = go (instr_of design word) refl
  where
    writers : List Writer
    writers = map writer_of transfers

    no_index : (ts : List Transfer) (p : ℕ) (w : Writer) → slice_get (map writer_of ts) p ≡ Some w → 0 ≡ option_map_or (net_value r) w.index 0
    no_index [] p w there = cc
    no_index (t ∷ ts) zero w there = ap (λ (x : Writer). option_map_or (net_value r) x.index 0) (same_Some (writer_of t) w there)
    no_index (t ∷ ts) (suc p) w there = no_index ts p w there

    gives : (p : ℕ) (w : Writer) → slice_get writers p ≡ Some w → IsOnlyWriter r writers p → (0 ≡ option_map_or (net_value r) w.index 0) × (r.read nets.target.number ≡ r.read w.value.number)
    gives p w there only = (no_index transfers p w there, are.target.means.holds r s p w there only)

    go : (o : Option Instr) → instr_of design word ≡ o → shown_target r nets ≡ (if is_on r valid then word_target value stage o else None)
    go None e = word_shows_none target_at design word value r is_transfer stage lt (apart design clean) writers of (is_on r valid) (is_on r nets.taken) 0 (r.read nets.target.number) (on_of are.taken r s) gives e
    go (Some i) e =
        let (n, shows) = word_shows target_at design word value r is_transfer stage lt (apart design clean) writers of (is_on r valid) (is_on r nets.taken) 0 (r.read nets.target.number) (on_of are.taken r s) gives i e in
        shows ∙ ap (λ x. if is_on r valid then x else None) (sym (targets design clean value stage word i e ∙ target_by_line value n stage i))
