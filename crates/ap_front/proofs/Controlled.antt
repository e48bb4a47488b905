-- Control as the border asks.
use Rattle.std.proofs.Common.{◌≡◌, ℕ, suc, ◌+◌, Bool, List, [], ◌∷◌, length, refl, sym, subst, ◌∙◌, arith}
use Rattle.std.specs.List.{AllByRecursion as Each}
use Rattle.ap_desc.specs.declared.design.Design.{Design}
use Rattle.ap_net.specs.declared.cell.Wire.{Wire}
use Rattle.ap_net.specs.Draft.{Draft, Extends}
use Rattle.ap_net.specs.Modules.{ModuleText}
use Rattle.ap_net.specs.Readings.{Carries}
use Rattle.ap_net.proofs.Laws.{Carries-Extends, meant, stays}
use Rattle.ap_ctl.proofs.Firing.{one_has}
use Rattle.ap_pipe.specs.declared.table.StageSlots.{StageSlots}
use Rattle.ap_signals.specs.NetRuns.{valid_name}
use Rattle.ap_ctl.specs.declared.nets.ControlGiven.{ControlGiven}
use Rattle.ap_ctl.specs.declared.nets.ControlNets.{ControlNets}
use Rattle.ap_ctl.specs.Building.{Tells}
use Rattle.ap_ctl.specs.Lists.{EachFrom, EachPair}
use Rattle.ap_ctl.specs.Meaning.{Look, fires, is_held, kills, next_valid}
use Rattle.ap_ctl.specs.Nets.{AreDecoded, IsControl, Shows, Takes}
use Rattle.ap_desc.specs.declared.design.Instr.{Instr}
use Rattle.ap_model.specs.Fire.{is_match}
use Rattle.ap_flight.specs.declared.stage.Coming.{Coming}
use Rattle.ap_flight.specs.declared.stage.StageRegisters.{StageRegisters}
use Rattle.ap_border.specs.Control.{IsBusyOf, IsWordOf}
use Rattle.ap_border.specs.Named.{IsPartNet, IsZeroNamed}
use Rattle.ap_front.specs.Controlling.{BusyGoesOn, ControlGivesBorder, ControlGoesOn, HoldsEachStage, words_of}
use Rattle.ap_front.specs.Driven.{AtPlace, IsDriven}
use Rattle.ap_front.specs.Opened.{NamesStages}
use Rattle.ap_front.proofs.Flying.{names_long}
use Rattle.ap_front.proofs.Named.{IsNamed-Extends, IsResetNamed-Extends, next_later}

-- Lists by number.

pub from_weaker : {X : Type 0} (P Q : ℕ → X → Type 0) → ((n : ℕ) (x : X) → P n x → Q n x) → (n : ℕ) (xs : List X) → EachFrom P n xs → EachFrom Q n xs
from_weaker P Q f n [] h = tt
from_weaker P Q f n (x ∷ xs) h = (f n x h.0, from_weaker P Q f (n + 1) xs h.1)

pub beside_weaker : {X Y : Type 0} (P Q : X → Y → Type 0) → ((x : X) (y : Y) → P x y → Q x y) → (xs : List X) (ys : List Y) → EachPair P xs ys → EachPair Q xs ys
beside_weaker P Q f [] [] h = tt
beside_weaker P Q f [] (y ∷ ys) h = absurd h
beside_weaker P Q f (x ∷ xs) [] h = absurd h
beside_weaker P Q f (x ∷ xs) (y ∷ ys) h = (f x y h.0, beside_weaker P Q f xs ys h.1)

all_weaker : {X : Type 0} (P Q : X → Type 0) → ((x : X) → P x → Q x) → (xs : List X) → Each P xs → Each Q xs
all_weaker P Q f [] h = tt
all_weaker P Q f (x ∷ xs) h = (f x h.0, all_weaker P Q f xs h.1)

-- Control goes on.

takes_on : {design : Design} {given : ControlGiven} {valid : List Wire} {a b : Draft} {meaning : Look → Bool} {register : Wire} → Extends a b → Takes design given valid a meaning register → Takes design given valid b meaning register
takes_on {design} {given} {valid} {a} {b} {meaning} {register} e h = record { from = h.from; next = next_later a b (record { register = register; from = h.from }) e h.next; shows = Carries-Extends e h.shows }

pub IsControl-Extends : (design : Design) (given : ControlGiven) (a b : Draft) (nets : ControlNets) → Extends a b → IsControl design given a nets → IsControl design given b nets
IsControl-Extends design given a b nets e h = record {
  next = from_weaker (λ stage. Takes design given nets.valid a (λ look. next_valid design look stage)) (λ stage. Takes design given nets.valid b (λ look. next_valid design look stage)) (λ n w. takes_on e) 1 nets.valid h.next;
  decoded = beside_weaker (AreDecoded design a) (AreDecoded design b) (λ word conditions k. beside_weaker (λ (i : Instr). Tells a (λ r. is_match (r.read word.number) i)) (λ (i : Instr). Tells b (λ r. is_match (r.read word.number) i))
      (λ i w t. record { carries = Carries-Extends e t.carries }) design.instrs conditions k) given.words nets.decoded h.decoded;
  hold = from_weaker (λ stage. Shows design given nets.valid a (λ look. is_held design look stage)) (λ stage. Shows design given nets.valid b (λ look. is_held design look stage)) (λ n w. Carries-Extends e) 0 nets.hold h.hold;
  stages = h.stages;
  frozen = λ stage. all_weaker (Shows design given nets.valid a (λ look. is_held design look stage)) (Shows design given nets.valid b (λ look. is_held design look stage)) (λ w. Carries-Extends e) nets.hold (h.frozen stage);
  fires = from_weaker (λ stage. Shows design given nets.valid a (λ look. fires design look stage)) (λ stage. Shows design given nets.valid b (λ look. fires design look stage)) (λ n w. Carries-Extends e) 1 nets.fires h.fires;
  flights = h.flights;
  kill = Carries-Extends e h.kill;
}

pub controlled_later : ControlGoesOn
controlled_later design a b given nets hold stall kill e h = record {
  control = IsControl-Extends design given a b nets e h.control;
  valid = from_weaker (λ stage. IsZeroNamed a (valid_name stage)) (λ stage. IsZeroNamed b (valid_name stage)) (λ n w. IsResetNamed-Extends e) 1 nets.valid h.valid;
  count = h.count;
  wait_named = IsNamed-Extends e h.wait_named;
  first = h.first;
  stall_named = IsNamed-Extends e h.stall_named;
  stall_shows = Carries-Extends e h.stall_shows;
  kill_named = IsNamed-Extends e h.kill_named;
  kill_shows = Carries-Extends e h.kill_shows;
}

part_on : {a b : Draft} {modules : List ModuleText} {part name : List ℕ} {w : Wire} → Extends a b → IsPartNet a modules part name w → IsPartNet b modules part name w
part_on {a} {b} {modules} {part} {name} {w} e h = record {
  k = h.k;
  of = h.of;
  at = stays a.instances b.instances e.instances h.k h.of h.at;
  named = h.named;
  other = λ same. h.other (same ∙ e.name);
  whole = h.whole;
  found = h.found;
  port = h.port;
  net = h.net;
  there = h.there;
  is = h.is;
  joined = h.joined;
}

pub busy_later : BusyGoesOn
busy_later design a b modules units busy e h = beside_weaker (IsBusyOf design a modules) (IsBusyOf design b modules) (λ u w k. record { resource = k.resource; at = k.at; net = part_on e k.net }) units busy h

-- What it shows.

pub holds_each_stage : HoldsEachStage
holds_each_stage design d given nets hold h in_hold stage = one_has (Shows design given nets.valid d (λ look. is_held design look stage)) nets.hold hold (h.frozen stage) in_hold

-- a copy shows what the net shows
copied : (design : Design) (given : ControlGiven) (valid : List Wire) (d : Draft) (meaning : Look → Bool) (net copy : Wire) → Carries d 1 (λ r x. x ≡ r.read net.number) copy → Shows design given valid d meaning net → Shows design given valid d meaning copy
copied design given valid d meaning net copy h shows = meant (λ r s e look sees. e ∙ shows.means.holds r s look sees) h

-- The words by their names.

words_from : (design : Design) (d : Draft) (stage : ℕ) (stages : List StageSlots) (registers : List StageRegisters) (comings : List Coming) → NamesStages design d stage stages registers → length comings ≡ length registers
    → AtPlace registers stages comings (λ q s c. IsDriven d q s c) → EachFrom (IsWordOf d) stage (words_of registers)
words_from design d stage [] [] comings h long each = tt
words_from design d stage [] (r ∷ registers) comings h long each = absurd h
words_from design d stage (s ∷ stages) [] comings h long each = absurd h
words_from design d stage (s ∷ stages) (r ∷ registers) [] h long each = absurd (omega arith)
words_from design d stage (s ∷ stages) (r ∷ registers) (c ∷ comings) h long each =
    let driven = each 0 r s c refl refl refl in (
      (driven.word.from, record { begins = h.0.word; next = driven.word.next }),
      words_from design d (stage + 1) stages registers comings h.1 (omega arith) (λ place q t k p1 p2 p3. each (suc place) q t k p1 p2 p3),
    )

pub control_gives_border : ControlGivesBorder
control_gives_border design d modules given nets hold stall kill idata pc_from stages r comings h flying words busy =
    let long : length comings ≡ length r.stages = flying.long ∙ sym flying.slots ∙ sym (names_long design d 1 stages r.stages flying.names.each) in
    record {
      control = h.control;
      words = subst (EachFrom (IsWordOf d) 1) (sym words) (words_from design d 1 stages r.stages comings flying.names.each long flying.each);
      valid = h.valid;
      count = h.count;
      mwait = h.wait_named;
      busy = busy;
      stall = stall;
      stall_named = h.stall_named;
      stall_shows = λ stage. copied design given nets.valid d (λ look. is_held design look stage) hold stall h.stall_shows (holds_each_stage design d given nets hold h.control h.first stage);
      kill = kill;
      kill_named = h.kill_named;
      kill_shows = copied design given nets.valid d (kills design) nets.kill kill h.kill_shows h.control.kill;
    }
