-- The registers of a stage as a whole: word, place and slots take what they take.
use Rattle.std.proofs.Common.{◌≡◌, ◌≢◌, ℕ, suc, ◌+◌, ◌<◌, List, [], ◌∷◌, ◌++◌, length, map, refl, sym, ap, subst, ◌∙◌, arith, append-nil, append_assoc, inl, inr}
use Rattle.std.specs.Prelude.{zip, Contains}
use Rattle.std.specs.List.{AllByRecursion as Each}
use Rattle.std.proofs.lemmas.List.Elements.{Contains-append_left, Contains-append_right, Contains-push}
use Rattle.ap_net.specs.declared.cell.Wire.{Wire}
use Rattle.ap_net.specs.declared.net.Next.{Next}
use Rattle.ap_net.specs.Cells.{IsNet}
use Rattle.ap_net.specs.Draft.{Draft, Extends, CanFresh, RegistersBelow, names_of, with_next}
use Rattle.ap_net.specs.Modules.{ports_among}
use Rattle.ap_net.specs.Names.{IsNew}
use Rattle.ap_net.specs.Late.{Reads, StayLate}
use Rattle.ap_net.specs.Making.{Closes, Makes}
use Rattle.ap_net.specs.Pending.{Among, IsFrom, Yields}
use Rattle.ap_net.specs.Readings.{Carries}
use Rattle.ap_net.specs.Ready.{numbers}
use Rattle.ap_net.specs.Wiring.{Unclocked}
use Rattle.ap_net.proofs.Laws.{Carries-Extends, Extends-trans, Makes-trans, ReadyAfter-Extends, Reads-joined, next_extends}
use Rattle.ap_ctl.specs.Lists.{EachFrom, EachPair}
use Rattle.ap_ctl.specs.Nets.{next_by, with_nexts}
use Rattle.ap_pipe.specs.declared.table.Home.{Home}
use Rattle.ap_flight.specs.declared.entry.Leaving.{Leaving}
use Rattle.ap_flight.specs.declared.stage.Coming.{Coming}
use Rattle.ap_flight.specs.declared.stage.StageRegisters.{StageRegisters}
use Rattle.ap_flight.specs.Entries.{SlotTakes, leaving_numbers, left_to}
use Rattle.ap_flight.specs.Stages.{AreSlotNets, DrivesStage, IsLike, IsOpen, PassesOn, TakesNet, coming_numbers}
use Rattle.ap_flight.proofs.Clocking.{one_free, register_later}
use Rattle.ap_flight.proofs.Halves.{Each-weaker}
use Rattle.ap_flight.proofs.Steps.{Yields-fewer}

pub nexts_extend : (d : Draft) (registers nets : List Wire) → Extends d (with_nexts d registers nets)
nexts_extend d registers nets = record { name = refl; nets = ([], sym (append-nil d.nets)); assigns = ([], sym (append-nil d.assigns)); nexts = (map next_by (zip registers nets), refl); instances = ([], sym (append-nil d.instances)) }

taken_registers : (registers nets : List Wire) → length registers ≡ length nets → map (λ (x : Next). x.register) (map next_by (zip registers nets)) ≡ registers
taken_registers [] nets e = refl
taken_registers (r ∷ registers) [] e = absurd (omega arith)
taken_registers (r ∷ registers) (n ∷ nets) e = ap (λ l. r ∷ l) (taken_registers registers nets (omega arith))

-- each slot takes its net
pub slots_taken : (d : Draft) (hold : Wire) (homes : List Home) (list : List Leaving) (slot : ℕ) (registers nets : List Wire) → AreSlotNets d hold homes list slot registers nets
    → ((x : Next) → Contains (map next_by (zip registers nets)) x → Contains d.nexts x) → EachFrom (λ slot register. TakesNet d (SlotTakes hold register (left_to slot homes list)) register) slot registers
slots_taken d hold homes list slot [] nets h f = tt
slots_taken d hold homes list slot (r ∷ registers) [] h f = absurd h
slots_taken d hold homes list slot (r ∷ registers) (w ∷ nets) h f =
    let x : Next = record { register = r; from = w } in (
      record { from = w; next = f x (0, omega arith, refl); carries = h.0 },
      slots_taken d hold homes list (slot + 1) registers nets h.1 (λ y c. f y (Contains-append_right (x ∷ []) (map next_by (zip registers nets)) y c)),
    )

pub slots_long : (d : Draft) (hold : Wire) (homes : List Home) (list : List Leaving) (slot : ℕ) (registers nets : List Wire) → AreSlotNets d hold homes list slot registers nets → length registers ≡ length nets
slots_long d hold homes list slot [] [] h = refl
slots_long d hold homes list slot [] (w ∷ nets) h = absurd h
slots_long d hold homes list slot (r ∷ registers) [] h = absurd h
slots_long d hold homes list slot (r ∷ registers) (w ∷ nets) h = ap suc (slots_long d hold homes list (slot + 1) registers nets h.1)

pub slots_like : (d : Draft) (hold : Wire) (homes : List Home) (list : List Leaving) (slot : ℕ) (registers nets : List Wire) → AreSlotNets d hold homes list slot registers nets → EachPair (IsLike d.nets) registers nets
slots_like d hold homes list slot [] [] h = tt
slots_like d hold homes list slot [] (w ∷ nets) h = absurd h
slots_like d hold homes list slot (r ∷ registers) [] h = absurd h
slots_like d hold homes list slot (r ∷ registers) (w ∷ nets) h = (record { net = h.0.net; same = h.0.wide }, slots_like d hold homes list (slot + 1) registers nets h.1)

-- Registers that are open while others take nets.

pub open_later : (a b : Draft) (w : Wire) → Extends a b → Unclocked b.nexts w.number → IsOpen a w → IsOpen b w
open_later a b w e free h = record { net = (Carries-Extends e anything).net; register = register_later a b w e h.net h.register; free = free }
  where
    anything : Carries a w.width (λ r x. Unit {0}) w
    anything = record { net = h.net; wide = refl; means = record { holds = λ r s. tt } }

pub still_open : (d e : Draft) (word place wnet pnet : Wire) (slots : List Wire) → e ≡ with_next (with_next d word wnet) place pnet → Extends d e → Each (IsOpen d) slots → Each (λ n. n ≢ word.number) (numbers slots) → Each (λ n. n ≢ place.number) (numbers slots) → Each (IsOpen e) slots
still_open d e word place wnet pnet [] is x h a b = tt
still_open d e word place wnet pnet (s ∷ slots) is x h a b = (
  open_later d e s x (subst (λ (y : Draft). Unclocked y.nexts s.number) (sym is) (one_free (with_next d word wnet) place pnet s.number (one_free d word wnet s.number h.0.free (λ q. a.0 (sym q))) (λ q. b.0 (sym q)))) h.0,
  still_open d e word place wnet pnet slots is x h.1 a.1 b.1,
)

pub open_made : (a b : Draft) → Makes a b → (wires : List Wire) → Each (IsOpen a) wires → Each (IsOpen b) wires
open_made a b m wires h = Each-weaker (IsOpen a) (IsOpen b) (λ w o. open_later a b w m.adds.extends (subst (λ l. Unclocked l w.number) (sym m.adds.nexts) o.free) o) wires h

-- What the nets of a stage read.

all_among : (xs : List ℕ) → Each (Among xs) xs
all_among [] = tt
all_among (x ∷ xs) = (inl refl, Each-weaker (Among xs) (Among (x ∷ xs)) (λ n m. inr m) xs (all_among xs))

-- the steps: the nets of word, place and slots, and what each register takes
module _ (registers : StageRegisters) (homes : List Home) (coming : Coming) (a b c d g : Draft) (wnet pnet : Wire) (nets : List Wire)
    (word : Carries b registers.word.width (PassesOn coming.hold registers.word coming.word) wnet)
    (word_yields : Yields (coming.hold.number ∷ registers.word.number ∷ coming.word.number ∷ []) a b wnet) (word_makes : Makes a b)
    (place : Carries c registers.place.width (PassesOn coming.hold registers.place coming.place) pnet)
    (place_yields : Yields (coming.hold.number ∷ registers.place.number ∷ coming.place.number ∷ []) b c pnet) (place_makes : Makes b c)
    (slots : AreSlotNets d coming.hold homes coming.locals 0 registers.slots nets)
    (slots_read : Reads (coming.hold.number ∷ numbers registers.slots ++ leaving_numbers coming.locals) c d) (slots_make : Makes c d)
    (last : g ≡ with_nexts (with_next (with_next d registers.word wnet) registers.place pnet) registers.slots nets) (fresh : CanFresh a) (late : StayLate d g) where
  abbrev e : Draft
  e = with_next d registers.word wnet

  abbrev f : Draft
  f = with_next e registers.place pnet

  abbrev x : Next
  x = record { register = registers.word; from = wnet }

  abbrev y : Next
  y = record { register = registers.place; from = pnet }

  abbrev others : List Next
  others = map next_by (zip registers.slots nets)

  d_to_g : Extends d g
  d_to_g = subst (Extends d) (sym last) (Extends-trans d e (with_nexts f registers.slots nets) (next_extends d x) (Extends-trans e f (with_nexts f registers.slots nets) (next_extends e y) (nexts_extend f registers.slots nets)))

  all_makes : Makes a d
  all_makes = Makes-trans a b d word_makes (Makes-trans b c d place_makes slots_make)

  a_to_d : Extends a d
  a_to_d = all_makes.adds.extends

  b_to_g : Extends b g
  b_to_g = Extends-trans b c g place_makes.adds.extends (Extends-trans c d g slots_make.adds.extends d_to_g)

  c_to_g : Extends c g
  c_to_g = Extends-trans c d g slots_make.adds.extends d_to_g

  all_nexts : g.nexts ≡ ((d.nexts ++ x ∷ []) ++ y ∷ []) ++ others
  all_nexts = ap (λ (q : Draft). q.nexts) last

  here : (n : Next) → Contains (((d.nexts ++ x ∷ []) ++ y ∷ []) ++ others) n → Contains g.nexts n
  here n h = subst (λ l. Contains l n) (sym all_nexts) h

  new_nexts : g.nexts ≡ a.nexts ++ x ∷ y ∷ others
  new_nexts =
      all_nexts ∙ append_assoc (d.nexts ++ x ∷ []) (y ∷ []) others ∙ append_assoc d.nexts (x ∷ []) (y ∷ others) ∙ ap (λ l. l ++ x ∷ y ∷ others) all_makes.adds.nexts

  -- what the pieces read
  abbrev from : List ℕ
  from = coming_numbers registers coming

  word_reads : Reads from a b
  word_reads = (Yields-fewer from (coming.hold.number ∷ registers.word.number ∷ coming.word.number ∷ []) a b wnet (inl refl, (inr (inr (inr (inl refl))), (inr (inl refl), tt))) word_yields).reads

  two_read : Reads from a c
  two_read = Reads-joined from (coming.hold.number ∷ registers.place.number ∷ coming.place.number ∷ []) a b c word_reads place_yields.reads (inl (inl refl), (inl (inr (inr (inr (inr (inl refl))))), (inl (inr (inr (inl refl))), tt)))

  abbrev slot_from : List ℕ
  slot_from = numbers registers.slots ++ leaving_numbers coming.locals

  all_read : Reads from a d
  all_read = Reads-joined from (coming.hold.number ∷ slot_from) a c d two_read slots_read
      (inl (inl refl), Each-weaker (Among slot_from) (IsFrom from a c) (λ n m. inl (inr (inr (inr (inr (inr m)))))) slot_from (all_among slot_from))

  same_nets : length g.nets ≡ length d.nets
  same_nets = ap (λ (q : Draft). length q.nets) last

  long : length registers.slots ≡ length nets
  long = slots_long d coming.hold homes coming.locals 0 registers.slots nets slots

  now_closes : Closes a g
  now_closes =
      let own = all_makes.closes.own in
      record {
        ready = λ by later grows old n lt. all_makes.closes.ready by later (Extends-trans d g later d_to_g grows) old n (subst (λ k. n < k) same_nets lt);
        own = record { more = own.more; assigns = ap (λ (q : Draft). q.assigns) last ∙ own.assigns; above = own.above };
        registers = λ k h. subst (λ (q : Draft). RegistersBelow q.nets k) (sym last) (all_makes.closes.registers k h);
      }

  pub drives_stage : (AreSlotNets g coming.hold homes coming.locals 0 registers.slots nets) → DrivesStage registers homes coming a g
  drives_stage now = record {
    word = record { from = wnet; next = here x (Contains-append_left ((d.nexts ++ x ∷ []) ++ y ∷ []) others x (Contains-append_left (d.nexts ++ x ∷ []) (y ∷ []) x (Contains-push d.nexts x))); carries = Carries-Extends b_to_g word };
    place = record { from = pnet; next = here y (Contains-append_left ((d.nexts ++ x ∷ []) ++ y ∷ []) others y (Contains-push (d.nexts ++ x ∷ []) y)); carries = Carries-Extends c_to_g place };
    slots = slots_taken g coming.hold homes coming.locals 0 registers.slots nets now (λ n h. here n (Contains-append_right ((d.nexts ++ x ∷ []) ++ y ∷ []) others n h));
    extends = Extends-trans a d g a_to_d d_to_g;
    nexts = (x ∷ y ∷ others, new_nexts, ap (λ l. registers.word ∷ registers.place ∷ l) (taken_registers registers.slots nets long));
    instances = ap (λ (q : Draft). q.instances) last ∙ all_makes.instances;
    ports = ap (λ (q : Draft). ports_among q.nets) last ∙ all_makes.ports;
    fresh = subst CanFresh (sym last) (all_makes.fresh fresh);
    names = λ name other new. subst (λ (q : Draft). IsNew name (names_of q)) (sym last) (all_makes.names name other new);
    late = λ w h. late w (all_read.late w h);
    came = λ by n low high. ReadyAfter-Extends by d g from n d_to_g (all_read.came by n low (subst (λ k. n < k) same_nets high));
    closes = now_closes;
  }

pub each_net : (d : Draft) (wires : List Wire) → Each (IsOpen d) wires → Each (IsNet d.nets) wires
each_net d wires h = Each-weaker (IsOpen d) (IsNet d.nets) (λ w o. o.net) wires h
