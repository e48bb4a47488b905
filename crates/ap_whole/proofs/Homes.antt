-- The homes of live locals are found.
use Rattle.std.proofs.Common.{◌≡◌, ℕ, zero, suc, ◌^◌, ◌<◌, ◌&&◌, Bool, true, false, List, [], ◌∷◌, length, Option, Some, refl, sym, ap, subst, ◌∙◌, arith, eqb-true}
use Rattle.std.specs.Prelude.{◌==◌, Contains, IsSomeAnd, bit_and, find, if◌then◌else◌, slice_get}
use Rattle.std.specs.Option.{option_map_or}
use Rattle.std.proofs.lemmas.Bool.Decides.{Decides-eqb}
use Rattle.std.proofs.lemmas.Nat.{and_le_r}
use Rattle.std.proofs.lemmas.Option.{slice_get-get_or}
use Rattle.ap_desc.specs.Clean.{IsClean}
use Rattle.ap_desc.specs.Patterns.{LiesInWord}
use Rattle.ap_desc.specs.Sound.{AreApart}
use Rattle.ap_desc.specs.declared.design.Design.{Design}
use Rattle.ap_desc.specs.declared.design.Instr.{Instr}
use Rattle.ap_model.specs.FlightLocals.{is_live_in}
use Rattle.ap_pipe.specs.Live.{IsLive}
use Rattle.ap_pipe.specs.Slots.{AreHomes}
use Rattle.ap_pipe.specs.declared.table.Home.{Home}
use Rattle.ap_flight.proofs.Locals.{contained}
use Rattle.ap_whole.specs.Homes.{HasHome, home_of, number_of}
use Rattle.ap_whole.proofs.Matching.{match_is}

-- the fixed bits of an instruction are a word
value_below : (bits : ℕ) (instr : Instr) → LiesInWord bits instr → instr.fixed_value < 2 ^ bits
value_below bits instr lies = let low = and_le_r instr.fixed_value instr.fixed_mask in rw (← lies.value) (omega (arith, lies.mask, low))

both_on : (a b : Bool) → (a && b) ≡ true → (a ≡ true) × (b ≡ true)
both_on true b e = (refl, e)
both_on false b e = cc

on_both : (a b : Bool) → a ≡ true → b ≡ true → (a && b) ≡ true
on_both true b e f = f
on_both false b e f = cc

-- where one passes at a place, one is found, at a place of its own
found : {X : Type 0} (p : X → Bool) (xs : List X) (k : ℕ) (x : X) → slice_get xs k ≡ Some x → p x ≡ true → (y : X) × (n : ℕ) × (find p xs ≡ Some y) × (slice_get xs n ≡ Some y) × (p y ≡ true)
found p [] k x at e = cc
found {X} p (y ∷ xs) k x at e = go (p y) refl k at (λ i f. found p xs i x f e)
  where
    go : (b : Bool) → p y ≡ b → (k : ℕ) → slice_get (y ∷ xs) k ≡ Some x → ((i : ℕ) → slice_get xs i ≡ Some x → (z : X) × (n : ℕ) × (find p xs ≡ Some z) × (slice_get xs n ≡ Some z) × (p z ≡ true))
        → (z : X) × (n : ℕ) × ((if b then Some y else find p xs) ≡ Some z) × (slice_get (y ∷ xs) n ≡ Some z) × (p z ≡ true)
    go true is k f later = (y, zero, refl, refl, is)
    go false is zero f later = let same : y ≡ x = cc in let wrong : false ≡ true = sym is ∙ ap p same ∙ e in cc
    go false is (suc i) f later = let z = later i f in (z.0, suc z.1, z.2, z.3, z.4)

module _ (design : Design) (clean : IsClean design) (apart : AreApart design.word design.instrs) (lies : (instr : Instr) → Contains design.instrs instr → LiesInWord design.word instr) where
  pub number_is : (k : ℕ) (instr : Instr) → slice_get design.instrs k ≡ Some instr → number_of design instr ≡ k
  number_is k instr at =
      let h = lies instr (contained design.instrs k instr at) in
      match_is design.word instr.fixed_value (value_below design.word instr h) design.instrs apart k instr at ((Decides-eqb (bit_and instr.fixed_value instr.fixed_mask) instr.fixed_value).1 h.value)

  pub has_home : (stage : ℕ) (widths : List ℕ) (homes : List Home) → AreHomes design stage widths homes → (k i : ℕ) (instr : Instr) → slice_get design.instrs k ≡ Some instr → is_live_in design stage i instr ≡ true
      → HasHome widths homes k i (home_of design homes instr i)
  has_home stage widths homes are k i instr at live =
      let known : IsLive design stage k i = subst (λ o. IsSomeAnd o (λ (x : Instr). is_live_in design stage i x ≡ true)) (sym at) live in
      let any = are.all k i known in
      let there : slice_get homes any.0 ≡ Some any.1 = slice_get-get_or homes any.0 any.1 any.2 ∙ ap Some any.3 in
      let number = number_is k instr at in
      let is : ((any.1).instr == number_of design instr) ≡ true = (Decides-eqb (any.1).instr (number_of design instr)).1 ((any.4).0 ∙ sym number) in
      let local : ((any.1).local == i) ≡ true = (Decides-eqb (any.1).local i).1 (any.4).1 in
      let f = found (λ (h : Home). (h.instr == number_of design instr) && (h.local == i)) homes any.0 any.1 there (on_both _ _ is local) in
      let passes = both_on _ _ f.4 in
      let slot : home_of design homes instr i ≡ (f.0).slot = ap (λ (o : Option Home). option_map_or (λ (h : Home). h.slot) o 0) f.2 in
      record {
        home = record { place = f.1; home = f.0; there = f.3; instr = eqb-true _ _ passes.0 ∙ number; local = eqb-true _ _ passes.1; stands = slot };
        within = subst (λ n. n < length widths) (sym slot) (are.hold f.0 (contained homes f.1 f.0 f.3)).there;
      }
