-- Writers that act.
use Rattle.std.proofs.Common.{◌≡◌, ◌&&◌, ◌||◌, Bool, true, false, List, [], ◌∷◌, ◌++◌, length, get_or, None, refl, sym, ap, ◌∙◌, arith}
use Rattle.std.specs.List.{AllByRecursion as Each, list_any}
use Rattle.std.specs.Option.{option_map_or}
use Rattle.ap_net.specs.declared.cell.Wire.{Wire}
use Rattle.ap_net.specs.declared.net.ModuleNet.{ModuleNet}
use Rattle.ap_net.specs.Draft.{Draft}
use Rattle.ap_net.specs.Making.{Makes}
use Rattle.ap_net.specs.Readings.{Reading}
use Rattle.ap_net.specs.Runs.{bit}
use Rattle.ap_net.proofs.Laws.{Carries-Makes}
use Rattle.ap_ctl.specs.Building.{IsBit, Tells, is_on}
use Rattle.ap_ctl.proofs.Bits.{bit_of, told}
use Rattle.ap_stage.specs.Wiring.{IsWiring}
use Rattle.ap_stage.proofs.Listed.{among_left}
use Rattle.ap_stage.proofs.Wired.{wiring_fewer}
use Rattle.ap_effect.specs.declared.write.Writer.{Writer}
use Rattle.ap_effect.specs.Writers.{IsGuarded, is_acting, writer_numbers, writing_numbers}
use Rattle.ap_effect.proofs.Reading.{each_in}

pub Tells-Makes : {a b : Draft} {fact : Reading → Bool} {w : Wire} → Makes a b → Tells a fact w → Tells b fact w
Tells-Makes m h = record { carries = Carries-Makes m h.carries }

-- one without a guard
pub unguarded : (d : Draft) (w : Writer) → w.guard ≡ None → IsBit d.nets w.cond → Tells d (λ r. is_acting r w) w.cond
unguarded d w e h = record {
  carries = record {
    net = h.net;
    wide = h.bit;
    means = record { holds = λ r s. bit_of d w.cond r h s ∙ ap bit (alone (is_on r w.cond) ∙ ap (λ o. is_on r w.cond && option_map_or (is_on r) o true) (sym e)) };
  };
}
  where
    alone : (b : Bool) → b ≡ (b && true)
    alone true = refl
    alone false = refl

-- one alone
pub one_acts : {d : Draft} (writers : List Writer) (x : Writer) (y : Wire) → length writers ≡ 1 → Tells d (λ r. is_acting r (get_or writers 0 x)) y → Tells d (λ r. list_any (is_acting r) writers) y
one_acts [] x y e h = absurd (omega arith)
one_acts (w ∷ []) x y e h = told (λ r s. alone (is_acting r w)) h
  where
    alone : (b : Bool) → b ≡ (b || false)
    alone true = refl
    alone false = refl
one_acts (w ∷ v ∷ writers) x y e h = absurd (omega arith)

pub one_wiring : (writers : List Writer) (x : Writer) (a b : Draft) (y : Wire) → length writers ≡ 1 → IsWiring (writer_numbers (get_or writers 0 x)) a b y → IsWiring (writing_numbers writers) a b y
one_wiring [] x a b y e h = absurd (omega arith)
one_wiring (w ∷ writers) x a b y e h = wiring_fewer (writer_numbers w ++ writing_numbers writers) (writer_numbers w) a b y h (each_in (writer_numbers w ++ writing_numbers writers) (writer_numbers w) (among_left (writer_numbers w) (writing_numbers writers)))

pub one_guarded : (nets : List ModuleNet) (writers : List Writer) (x : Writer) → length writers ≡ 1 → Each (IsGuarded nets) writers → IsGuarded nets (get_or writers 0 x)
one_guarded nets [] x e h = absurd (omega arith)
one_guarded nets (w ∷ writers) x e h = h.0
