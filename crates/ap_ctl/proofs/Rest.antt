-- What the nets beside the valid bits tell, by what control looks at.
use Rattle.std.proofs.Common.{◌≡◌, ℕ, zero, suc, ◌+◌, ◌-◌, ◌<◌, ◌≤◌, Bool, true, false, List, length, get_or, refl, sym, ap, ◌∙◌, arith}
use Rattle.std.specs.Prelude.{◌==◌, ◌&&◌, ◌||◌, not, if◌then◌else◌, slice_get, Some}
use Rattle.std.specs.Option.{option_map_or}
use Rattle.std.proofs.lemmas.Option.{slice_get-get_or}
use Rattle.ap_desc.specs.declared.design.Design.{Design}
use Rattle.ap_net.specs.declared.cell.Wire.{Wire}
use Rattle.ap_net.specs.Draft.{Draft}
use Rattle.ap_net.specs.Readings.{Reading, IsSettled}
use Rattle.ap_net.specs.Runs.{bit}
use Rattle.ap_net.proofs.Laws.{meant}
use Rattle.ap_ctl.specs.declared.move_on.Gates.{Gates}
use Rattle.ap_ctl.specs.declared.nets.ControlGiven.{ControlGiven}
use Rattle.ap_ctl.specs.Building.{Tells, is_on}
use Rattle.ap_ctl.specs.Lists.{EachFrom}
use Rattle.ap_ctl.specs.Meaning.{Look, Sees, fires, is_held, is_killable, kills, next_valid}
use Rattle.ap_ctl.specs.Moves.{AreGates, coming_of, fire_of, is_on_at, next_of, open_gate}
use Rattle.ap_ctl.specs.Nets.{Shows}
use Rattle.ap_ctl.proofs.Beside.{EachFrom-at, EachFrom-within}
use Rattle.ap_ctl.proofs.Bits.{joined_all, on_of}

bit_on : (b : Bool) → (bit b == 1) ≡ b
bit_on true = refl
bit_on false = refl

module _ (design : Design) (given : ControlGiven) (valid : List Wire) (d : Draft) where
  -- a net that shows a meaning is 1 exactly where it holds
  pub shows_on : (meaning : Look → Bool) (w : Wire) → Shows design given valid d meaning w → (r : Reading) → IsSettled d r → (look : Look) → Sees design given valid r look → is_on r w ≡ meaning look
  shows_on meaning w h r s look sees = ap (λ n. n == 1) (h.means.holds r s look sees) ∙ bit_on (meaning look)

  -- what tells a fact shows a meaning that is the same
  pub shown : (fact : Reading → Bool) (meaning : Look → Bool) (w : Wire) → ((r : Reading) → IsSettled d r → (look : Look) → Sees design given valid r look → fact r ≡ meaning look) → Tells d fact w → Shows design given valid d meaning w
  shown fact meaning w f h = meant (λ r s e look sees. e ∙ ap bit (f r s look sees)) h.carries

  module _ (g : Gates) (gates : AreGates d given.taken g) (hold : (stage : ℕ) → Shows design given valid d (λ look. is_held design look stage) g.hold) where
    pub kill_shown : Shows design given valid d (kills design) g.kill
    kill_shown = shown (λ r. is_on r given.taken && not (is_on r g.hold)) (kills design) g.kill
        (λ r s look sees. joined_all (sym sees.taken) (ap not (shows_on (λ l. is_held design l design.branch) g.hold (hold design.branch) r s look sees))) gates.kill

    -- what lets through what is in a stage
    open_shown : (r : Reading) → IsSettled d r → (look : Look) → Sees design given valid r look → (stage : ℕ) → is_on r (open_gate design g stage) ≡ not (is_held design look stage || (kills design look && is_killable design stage))
    open_shown r s look sees stage = by (is_killable design stage) where
      held : is_on r g.hold ≡ is_held design look stage
      held = shows_on (λ l. is_held design l stage) g.hold (hold stage) r s look sees

      killed : (is_on r given.taken && not (is_on r g.hold)) ≡ kills design look
      killed = sym (on_of gates.kill r s) ∙ shows_on (kills design) g.kill kill_shown r s look sees

      both : (h q : Bool) → (not h && not q) ≡ not (h || (q && true))
      both true q = refl
      both false true = refl
      both false false = refl

      one : (h q : Bool) → not h ≡ not (h || (q && false))
      one true q = refl
      one false true = refl
      one false false = refl

      by : (b : Bool) → is_on r (if b then g.lives else g.goes) ≡ not (is_held design look stage || (kills design look && b))
      by true = on_of gates.lives r s ∙ joined_all (ap not held) (ap not killed) ∙ both (is_held design look stage) (kills design look)
      by false = on_of gates.goes r s ∙ ap not held ∙ one (is_held design look stage) (kills design look)

    let_through : (v x : Bool) → (v && not x) ≡ (if x then false else v)
    let_through true true = refl
    let_through true false = refl
    let_through false true = refl
    let_through false false = refl

    valid_at : (r : Reading) (look : Look) → Sees design given valid r look → (stage : ℕ) → 1 ≤ stage → stage < 1 + length valid → is_on_at r valid (stage - 1) ≡ look.valid stage
    valid_at r look sees stage low high =
        let lt : stage - 1 < length valid = omega arith in
        let back : 1 + (stage - 1) ≡ stage = omega arith in
        let v : Wire = get_or valid (stage - 1) given.mwait in
        let at : slice_get valid (stage - 1) ≡ Some v = slice_get-get_or valid (stage - 1) given.mwait lt in
        let here : look.valid (1 + (stage - 1)) ≡ is_on r v = EachFrom-at (λ n (w : Wire). look.valid n ≡ is_on r w) 1 valid sees.bits (stage - 1) v at in
        ap (λ o. option_map_or (is_on r) o false) at ∙ sym here ∙ ap look.valid back

    fire_shown : (r : Reading) → IsSettled d r → (look : Look) → Sees design given valid r look → (stage : ℕ) → 1 ≤ stage → stage < 1 + length valid → fire_of design g valid stage r ≡ fires design look stage
    fire_shown r s look sees stage low high =
        joined_all (valid_at r look sees stage low high) (open_shown r s look sees stage) ∙ let_through (look.valid stage) (is_held design look stage || (kills design look && is_killable design stage))

    pub fires_shown : (nets : List Wire) → length nets ≡ length valid → EachFrom (λ stage. Tells d (fire_of design g valid stage)) 1 nets → EachFrom (λ stage. Shows design given valid d (λ look. fires design look stage)) 1 nets
    fires_shown nets long h =
        EachFrom-within (λ stage. Tells d (fire_of design g valid stage)) (λ stage. Shows design given valid d (λ look. fires design look stage)) 1 nets
        (λ stage w low high t. shown (fire_of design g valid stage) (λ look. fires design look stage) w (λ r s look sees. fire_shown r s look sees stage low (omega (arith, long))) t) h

    module _ (nets : List Wire) (long : length nets ≡ length valid) (firing : EachFrom (λ stage. Shows design given valid d (λ look. fires design look stage)) 1 nets) where
      coming_shown : (r : Reading) → IsSettled d r → (look : Look) → Sees design given valid r look → (place : ℕ) → place < length valid → coming_of design g nets place r ≡ fires design look place
      coming_shown r s look sees zero lt =
          open_shown r s look sees 0 ∙ let_through true (is_held design look 0 || (kills design look && is_killable design 0))
          ∙ ap (λ b. if is_held design look 0 || (kills design look && is_killable design 0) then false else b) (sym sees.fetched)
      coming_shown r s look sees (suc place) lt =
          let next : 1 + place ≡ suc place = omega arith in
          let inside : place < length nets = omega (arith, long) in
          let w : Wire = get_or nets place given.mwait in
          let at : slice_get nets place ≡ Some w = slice_get-get_or nets place given.mwait inside in
          ap (λ o. option_map_or (is_on r) o false) at
          ∙ shows_on (λ l. fires design l (1 + place)) w (EachFrom-at (λ stage. Shows design given valid d (λ l. fires design l stage)) 1 nets firing place w at) r s look sees ∙ ap (λ n. fires design look n) next

      next_shown : (r : Reading) → IsSettled d r → (look : Look) → Sees design given valid r look → (stage : ℕ) → 1 ≤ stage → stage < 1 + length valid → next_of design g valid nets stage r ≡ next_valid design look stage
      next_shown r s look sees stage low high =
          ap (λ b. if b then is_on_at r valid (stage - 1) else coming_of design g nets (stage - 1) r) (shows_on (λ l. is_held design l stage) g.hold (hold stage) r s look sees)
          ∙ ap (λ b. if is_held design look stage then b else coming_of design g nets (stage - 1) r) (valid_at r look sees stage low high)
          ∙ ap (λ b. if is_held design look stage then look.valid stage else b) (coming_shown r s look sees (stage - 1) (omega arith))

      pub nexts_shown : (next : List Wire) → length next ≡ length valid → EachFrom (λ stage. Tells d (next_of design g valid nets stage)) 1 next → EachFrom (λ stage. Shows design given valid d (λ look. next_valid design look stage)) 1 next
      nexts_shown next count h =
          EachFrom-within (λ stage. Tells d (next_of design g valid nets stage)) (λ stage. Shows design given valid d (λ look. next_valid design look stage)) 1 next
          (λ stage w low high t. shown (next_of design g valid nets stage) (λ look. next_valid design look stage) w (λ r s look sees. next_shown r s look sees stage low (omega (arith, count))) t) h
