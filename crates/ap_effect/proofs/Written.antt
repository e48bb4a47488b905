-- What the nets of a write port are made of, piece by piece.
use Rattle.std.proofs.Common.{ℕ, List, [], ◌∷◌, Option, Some, None, inl, inr, refl}
use Rattle.std.specs.Prelude.{IfSome, option_to_list}
use Rattle.std.specs.List.{AllByRecursion as Each}
use Rattle.ap_net.specs.declared.cell.Wire.{Wire}
use Rattle.ap_net.specs.Draft.{Draft, Extends}
use Rattle.ap_net.specs.Late.{Reads}
use Rattle.ap_net.specs.Pending.{Among, IsFrom, Yields}
use Rattle.ap_net.specs.Ready.{numbers}
use Rattle.ap_net.proofs.Laws.{Extends-refl, Extends-trans, IsFrom-later, IsFrom-more, Reads-joined, Yields-after}
use Rattle.ap_stage.specs.Trees.{StandsOver}
use Rattle.ap_stage.specs.Wiring.{IsWiring}
use Rattle.ap_stage.proofs.Choosing.{each_from}
use Rattle.ap_stage.proofs.Wired.{wiring_after, wiring_fewer}
use Rattle.ap_effect.proofs.Growing.{stands_between}
use Rattle.ap_effect.proofs.Reading.{Yields-fewer, each_in}

-- nets that came in a later piece
each_later : (from more : List ℕ) (a b c : Draft) (ns : List ℕ) → Extends a b → Extends b c → Each (IsFrom from a b) more → Each (IsFrom more b c) ns → Each (IsFrom from a c) ns
each_later from more a b c [] ab bc later h = tt
each_later from more a b c (n ∷ ns) ab bc later h = (IsFrom-later from more a b c n ab bc later h.0, each_later from more a b c ns ab bc later h.1)

-- what a whole port reads
pub port_reads : (fires : Wire) (writing : List ℕ) (a b c d e : Draft) (any enable value : Wire) (index : Option Wire) → Yields writing a b any → Yields (fires.number ∷ any.number ∷ []) b c enable → Yields writing c d value
    → Reads writing d e → Each (IsFrom writing d e) (numbers (option_to_list index))
    → Reads (fires.number ∷ writing) a e × Each (IsFrom (fires.number ∷ writing) a e) (enable.number ∷ value.number ∷ numbers (option_to_list index))
port_reads fires writing a b c d e any enable value index one two three four results =
    let from : List ℕ = fires.number ∷ writing in
    let some : (n : ℕ) → Among writing n → Among from n = λ n h. inr h in
    let first = Yields-fewer from writing a b any some one in
    let second = Yields-after from (fires.number ∷ any.number ∷ []) a b c enable first.reads two (inl (inl refl), (first.result, tt)) in
    let third = Yields-after from writing a c d value second.reads three (each_from from a c writing some) in
    let later : Each (IsFrom from a d) writing = each_from from a d writing some in
    let cd = three.reads.extends in
    let de = four.extends in (
      Reads-joined from writing a d e third.reads four later,
      (IsFrom-more from a c e enable.number (Extends-trans c d e cd de) second.result, (IsFrom-more from a d e value.number de third.result, each_later from writing a d e (numbers (option_to_list index)) third.reads.extends de later results)),
    )

-- what stands before the net of the index, where there is one
pub index_over : (more : ℕ) (leaves : List ℕ) (a b c : Draft) (o : Option Wire) → Extends a b → IfSome o (λ (i : Wire). StandsOver more leaves b c i.number) → IfSome o (λ (i : Wire). StandsOver more leaves a c i.number)
index_over more leaves a b c None e h = tt
index_over more leaves a b c (Some i) e h = stands_between more leaves a b c c i.number e (Extends-refl c) h

-- what stands before the enable
pub enable_over : (fires : Wire) (writing : List ℕ) (a b c d : Draft) (any enable : Wire) → IsWiring writing a b any → IsWiring (fires.number ∷ any.number ∷ []) b c enable → Extends c d → StandsOver 0 (fires.number ∷ writing) a d enable.number
enable_over fires writing a b c d any enable one two e =
    let from : List ℕ = fires.number ∷ writing in
    let first = wiring_fewer from writing a b any one (each_in from writing (λ n h. inr h)) in
    let all = wiring_after from (fires.number ∷ any.number ∷ []) a b c any enable first two (inr (inl refl), (inl refl, tt)) in
    stands_between 0 from a a c d enable.number (Extends-refl a) e all.shallow
