-- What was handed in stays where the draft grows.
use Rattle.std.proofs.Common.{◌≡◌, ℕ, ◌++◌, List, [], ◌∷◌, Option, Some, None, refl, subst, inr}
use Rattle.std.specs.Prelude.{IfSome, slice_get}
use Rattle.std.specs.List.{AllByRecursion as Each}
use Rattle.ap_desc.specs.declared.design.Arg.{Arg}
use Rattle.ap_net.specs.declared.cell.Wire.{Wire}
use Rattle.ap_net.specs.Draft.{Draft, Extends}
use Rattle.ap_net.specs.Making.{Makes}
use Rattle.ap_net.specs.Pending.{Among, IsFrom}
use Rattle.ap_net.proofs.Laws.{Carries-Extends, Extends-trans, IsFrom-later, IsFrom-more, Reads-joined, Reads-refl}
use Rattle.ap_ctl.specs.Lists.{EachPair}
use Rattle.ap_ctl.proofs.Beside.{EachPair-weaker}
use Rattle.ap_stage.specs.declared.node.Course.{Course}
use Rattle.ap_stage.specs.declared.source.Ground.{Ground}
use Rattle.ap_stage.specs.Courses.{IsCourse, courses_numbers}
use Rattle.ap_stage.specs.Sources.{source_numbers}
use Rattle.ap_stage.specs.Trees.{IsShallow}
use Rattle.ap_stage.specs.Wiring.{IsWiring, ReadsOnly}
use Rattle.ap_stage.proofs.Coursed.{among_at}
use Rattle.ap_stage.proofs.Followed.{each_then, old_from}
use Rattle.ap_stage.proofs.Listed.{each_both, each_left, each_right}
use Rattle.ap_stage.proofs.Shallow.{shallow_on}
use Rattle.ap_effect.specs.declared.line.PortLine.{PortLine}
use Rattle.ap_effect.specs.declared.write.Writer.{Writer}
use Rattle.ap_effect.specs.Writers.{writer_numbers, writing_numbers}
use Rattle.ap_outcome.specs.Fitting.{LineWritersGoOn}
use Rattle.ap_outcome.specs.Outcomes.{IsLineWriter, IsLowWriter, IsNetOf, IsWriterFor}

-- in every later draft

net_of_later : (a b : Draft) (ground : Ground) (c : Course) (arg : Option Arg) (o : Option Wire) → Extends a b → IsNetOf a ground c arg o → IsNetOf b ground c arg o
net_of_later a b ground c None None e h = tt
net_of_later a b ground c None (Some w) e h = absurd h
net_of_later a b ground c (Some x) None e h = absurd h
net_of_later a b ground c (Some x) (Some w) e h = Carries-Extends e h

writer_later : (a b : Draft) (ground : Ground) (c : Course) (line : PortLine) (w : Writer) → Extends a b → IsWriterFor a ground c line w → IsWriterFor b ground c line w
writer_later a b ground c line w e h = record {
  cond = h.cond;
  guard = net_of_later a b ground c line.guard w.guard e h.guard;
  index = net_of_later a b ground c line.index w.index e h.index;
  value = Carries-Extends e h.value;
}

writers_later : (a b : Draft) (ground : Ground) (courses : List Course) (lines : List PortLine) (writers : List Writer) → Extends a b → EachPair (IsLineWriter a ground courses) lines writers → EachPair (IsLineWriter b ground courses) lines writers
writers_later a b ground courses lines writers e h =
    EachPair-weaker (IsLineWriter a ground courses) (IsLineWriter b ground courses) (λ line w one. record { course = one.course; at = one.at; writer = writer_later a b ground one.course line w e one.writer }) lines writers h

low_net_later : (a b : Draft) (o : Option Wire) → Extends a b → IfSome o (λ (i : Wire). IsShallow a 0 i.number) → IfSome o (λ (i : Wire). IsShallow b 0 i.number)
low_net_later a b None e h = tt
low_net_later a b (Some i) e h = shallow_on a b 0 i.number e h

low_later : (a b : Draft) (writers : List Writer) → Extends a b → Each (IsLowWriter a) writers → Each (IsLowWriter b) writers
low_later a b [] e h = tt
low_later a b (w ∷ writers) e h = (record { index = low_net_later a b w.index e (h.0).index; value = shallow_on a b 0 w.value.number e (h.0).value }, low_later a b writers e h.1)

pub line_writers_go_on : LineWritersGoOn
line_writers_go_on a b ground courses lines writers e h = record { each = writers_later a b ground courses lines writers e h.each; low = low_later a b writers e h.low }

-- where wires were made

pub net_of_on : (a b : Draft) (ground : Ground) (c : Course) (arg : Option Arg) (o : Option Wire) → Makes a b → IsNetOf a ground c arg o → IsNetOf b ground c arg o
net_of_on a b ground c arg o m h = net_of_later a b ground c arg o m.adds.extends h

pub writers_on : (a b : Draft) (ground : Ground) (courses : List Course) (lines : List PortLine) (writers : List Writer) → Makes a b → EachPair (IsLineWriter a ground courses) lines writers → EachPair (IsLineWriter b ground courses) lines writers
writers_on a b ground courses lines writers m h = writers_later a b ground courses lines writers m.adds.extends h

pub low_net_on : (a b : Draft) (o : Option Wire) → Makes a b → IfSome o (λ (i : Wire). IsShallow a 0 i.number) → IfSome o (λ (i : Wire). IsShallow b 0 i.number)
low_net_on a b o m h = low_net_later a b o m.adds.extends h

pub low_on : (a b : Draft) (writers : List Writer) → Makes a b → Each (IsLowWriter a) writers → Each (IsLowWriter b) writers
low_on a b writers m h = low_later a b writers m.adds.extends h

pub low_push : (d : Draft) (writers : List Writer) (w : Writer) → Each (IsLowWriter d) writers → IsLowWriter d w → Each (IsLowWriter d) (writers ++ w ∷ [])
low_push d writers w h one = each_both (IsLowWriter d) writers (w ∷ []) h (one, tt)

-- no `? :` stands before the net of an operand
pub wiring_low : (a b : Draft) (ground : Ground) (c : Course) (w : Wire) → IsCourse a ground c → IsWiring (source_numbers ground c.row.items) a b w → IsShallow b 0 w.number
wiring_low a b ground c w h is = is.shallow 0 h.low

pub wiring_only : (from : List ℕ) (a b : Draft) (w : Wire) → IsWiring from a b w → ReadsOnly from a b
wiring_only from a b w h = record { reads = h.yields.reads; makes = h.makes }

-- it reads the nets of its course, which are among those of all
pub only_among : (ground : Ground) (courses : List Course) (i : ℕ) (c : Course) (a b : Draft) → slice_get courses i ≡ Some c → ReadsOnly (source_numbers ground c.row.items) a b → ReadsOnly (courses_numbers ground courses) a b
only_among ground courses i c a b at h =
    let from : List ℕ = courses_numbers ground courses in
    let more : List ℕ = source_numbers ground c.row.items in
    record {
      reads = Reads-joined from more a a b (Reads-refl from a) h.reads (old_from from a a more (λ n there. among_at ground courses i c at n (inr there)));
      makes = h.makes;
    }

-- a line without an index has a writer without one
pub no_index : (d : Draft) (ground : Ground) (courses : List Course) (lines : List PortLine) (writers : List Writer) → EachPair (IsLineWriter d ground courses) lines writers → Each (λ (l : PortLine). l.index ≡ None) lines → Each (λ (w : Writer). w.index ≡ None) writers
no_index d ground courses [] [] h none = tt
no_index d ground courses [] (w ∷ writers) h none = absurd h
no_index d ground courses (l ∷ lines) [] h none = absurd h
no_index d ground courses (l ∷ lines) (w ∷ writers) h none =
    (go w.index (subst (λ o. IsNetOf d ground (h.0).course o w.index) none.0 (h.0).writer.index), no_index d ground courses lines writers h.1 none.1)
  where
    go : (o : Option Wire) → IsNetOf d ground (h.0).course None o → o ≡ None
    go None i = refl
    go (Some x) i = absurd i

-- Which nets they are.

-- nets that are from some, over more of these, where more came before and after
pub from_between : (more from : List ℕ) (a b c d : Draft) (nets : List ℕ) → ((n : ℕ) → Among more n → Among from n) → Extends a b → Extends b c → Extends c d → Each (IsFrom more b c) nets → Each (IsFrom from a d) nets
from_between more from a b c d nets all before across after each =
    each_then (IsFrom more b c) (IsFrom from a d) nets
    (λ n h. IsFrom-later from more a b d n before (Extends-trans b c d across after) (old_from from a b more all) (IsFrom-more more b c d n after h)) each

pub from_on : (from : List ℕ) (a b c : Draft) (nets : List ℕ) → Extends b c → Each (IsFrom from a b) nets → Each (IsFrom from a c) nets
from_on from a b c nets after each = each_then (IsFrom from a b) (IsFrom from a c) nets (λ n h. IsFrom-more from a b c n after h) each

pub writing_push : (P : ℕ → Type 0) (writers : List Writer) (w : Writer) → Each P (writing_numbers writers) → Each P (writer_numbers w) → Each P (writing_numbers (writers ++ w ∷ []))
writing_push P [] w all one = each_both P (writer_numbers w) [] one tt
writing_push P (x ∷ writers) w all one =
    each_both P (writer_numbers x) (writing_numbers (writers ++ w ∷ [])) (each_left P (writer_numbers x) (writing_numbers writers) all)
    (writing_push P writers w (each_right P (writer_numbers x) (writing_numbers writers) all) one)
