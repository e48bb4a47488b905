-- What was made for write ports and for the transfer, one piece after another.
use Rattle.std.proofs.Common.{◌≡◌, ℕ, List, [], ◌∷◌, ◌++◌, length, Option, None, Some, inl, inr, refl}
use Rattle.std.specs.List.{AllByRecursion as Each}
use Rattle.ap_desc.specs.declared.design.Arg.{Arg}
use Rattle.ap_desc.specs.declared.design.Design.{Design}
use Rattle.ap_net.specs.declared.cell.Wire.{Wire}
use Rattle.ap_net.specs.Draft.{Draft, Extends}
use Rattle.ap_net.specs.Late.{Reads}
use Rattle.ap_net.specs.Pending.{IsFrom}
use Rattle.ap_net.specs.Ready.{numbers}
use Rattle.ap_net.proofs.Laws.{Extends-refl, Reads-joined}
use Rattle.ap_ctl.specs.Lists.{EachPair}
use Rattle.ap_ctl.proofs.Beside.{EachPair-length, EachPair-weaker}
use Rattle.ap_stage.specs.declared.node.Course.{Course}
use Rattle.ap_stage.specs.declared.source.Ground.{Ground}
use Rattle.ap_stage.specs.Reads.{AreFrom}
use Rattle.ap_stage.proofs.Coursed.{from_wider}
use Rattle.ap_stage.proofs.Followed.{from_later, old_from}
use Rattle.ap_stage.proofs.Listed.{each_both, each_left, each_right}
use Rattle.ap_effect.specs.declared.line.PortLine.{PortLine}
use Rattle.ap_effect.specs.declared.write.WriteNets.{WriteNets}
use Rattle.ap_effect.specs.declared.write.Writer.{Writer}
use Rattle.ap_effect.specs.Writers.{write_wires}
use Rattle.ap_effect.proofs.Growing.{ports_go_on}
use Rattle.ap_outcome.specs.Fitting.{FitsPort, HasIndexBits}
use Rattle.ap_outcome.specs.Outcomes.{AreLineWriters, HasCourse, IsLineWriter}
use Rattle.ap_outcome.proofs.Later.{from_between, from_on, line_writers_go_on}
use Rattle.ap_commit.specs.declared.write.UsedPort.{UsedPort}
use Rattle.ap_commit.specs.Written.{AreWritten, IsWritten, ports_numbers}

-- nets over one more net, and over those of writers that come from some
pub both_from : (base : List ℕ) (one : ℕ) (a b c : Draft) (mid nets : List ℕ) → Reads base a b → Each (IsFrom base a b) mid → Reads (one ∷ mid) b c → Each (IsFrom (one ∷ mid) b c) nets → AreFrom (one ∷ base) a c nets
both_from base one a b c mid nets first mids second results =
    let from : List ℕ = one ∷ base in
    let wide : AreFrom from a b mid = from_wider from base mid a b (λ n at. inr at) (record { reads = first; results = mids }) in
    from_later from (one ∷ mid) nets a b c (record { reads = wide.reads; results = (inl (inl refl), wide.results) }) (record { reads = second; results = results })

pub count_of : (d : Draft) (ground : Ground) (courses : List Course) (lines : List PortLine) (writers : List Writer) → AreLineWriters d ground courses lines writers → length writers ≡ length lines
count_of d ground courses lines writers h = EachPair-length (IsLineWriter d ground courses) lines writers h.each

pub written_on : (a b : Draft) (ground : Ground) (courses : List Course) (fires : Wire) (bits : Option ℕ) (width : ℕ) (lines : List PortLine) (made : WriteNets) → Extends a b → AreWritten a ground courses fires bits width lines made → AreWritten b ground courses fires bits width lines made
written_on a b ground courses fires bits width lines made e h = record {
  old = h.old;
  writers = h.writers;
  fit = h.fit;
  come = line_writers_go_on a b ground courses lines h.writers e h.come;
  are = ports_go_on a b fires h.writers bits width made e h.are;
}

pub ports_on : (a b : Draft) (design : Design) (stage : ℕ) (ground : Ground) (courses : List Course) (fires : Wire) (ports : List UsedPort) (made : List WriteNets) → Extends a b → EachPair (IsWritten a design stage ground courses fires) ports made
    → EachPair (IsWritten b design stage ground courses fires) ports made
ports_on a b design stage ground courses fires ports made e h =
    EachPair-weaker (IsWritten a design stage ground courses fires) (IsWritten b design stage ground courses fires) (λ used nets one. written_on a b ground courses fires used.bits used.width _ nets e one) ports made h

ports_push : (P : ℕ → Type 0) (ports : List WriteNets) (made : WriteNets) → Each P (ports_numbers ports) → Each P (numbers (write_wires made)) → Each P (ports_numbers (ports ++ made ∷ []))
ports_push P [] made all one = each_both P (numbers (write_wires made)) [] one tt
ports_push P (x ∷ ports) made all one =
    each_both P (numbers (write_wires x)) (ports_numbers (ports ++ made ∷ [])) (each_left P (numbers (write_wires x)) (ports_numbers ports) all)
    (ports_push P ports made (each_right P (numbers (write_wires x)) (ports_numbers ports) all) one)

-- one more port
pub port_from : (from : List ℕ) (a b c : Draft) (ports : List WriteNets) (made : WriteNets) → AreFrom from a b (ports_numbers ports) → AreFrom from b c (numbers (write_wires made)) → AreFrom from a c (ports_numbers (ports ++ made ∷ []))
port_from from a b c ports made before one = record {
  reads = Reads-joined from from a b c before.reads one.reads (old_from from a b from (λ n at. at));
  results = ports_push (IsFrom from a c) ports made (from_on from a b c (ports_numbers ports) one.reads.extends before.results)
      (from_between from from a b c c (numbers (write_wires made)) (λ n at. at) before.reads.extends one.reads.extends (Extends-refl c) one.results);
}

-- a line that fits a port without an index hands in none
no_index : (ground : Ground) (course : Course) (line : PortLine) → HasIndexBits ground course None line.index → line.index ≡ None
no_index ground course line h = go line.index h
  where
    go : (o : Option Arg) → HasIndexBits ground course None o → o ≡ None
    go None i = refl
    go (Some a) i = absurd i

pub none_index : (ground : Ground) (courses : List Course) (width : ℕ) (lines : List PortLine) → Each (HasCourse courses) lines → Each (FitsPort ground courses None width) lines → Each (λ (l : PortLine). l.index ≡ None) lines
none_index ground courses width [] can fit = tt
none_index ground courses width (l ∷ lines) can fit = (no_index ground (can.0).course l (fit.0 (can.0).course (can.0).at).index, none_index ground courses width lines can.1 fit.1)
