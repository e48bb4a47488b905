-- The instructions of a stage, started one after another.
use Rattle.std.proofs.Common.{◌≡◌, ℕ, zero, suc, ◌+◌, List, [], ◌∷◌, ◌++◌, length, Some, inl, inr, refl, sym, ap, subst, ◌∙◌, length-append}
use Rattle.std.specs.Prelude.{◌⊎◌, slice_get}
use Rattle.std.specs.List.{AllByRecursion as Each}
use Rattle.std.proofs.lemmas.Option.{same_Some}
use Rattle.ap_desc.specs.declared.design.Design.{Design}
use Rattle.ap_desc.specs.declared.design.Instr.{Instr}
use Rattle.ap_net.specs.declared.cell.Wire.{Wire}
use Rattle.ap_net.specs.Cells.{IsNet}
use Rattle.ap_net.specs.Draft.{Draft}
use Rattle.ap_net.specs.Late.{Reads}
use Rattle.ap_net.specs.Making.{Makes}
use Rattle.ap_net.specs.Pending.{IsFrom}
use Rattle.ap_net.specs.Ready.{numbers}
use Rattle.ap_net.proofs.Laws.{Carries-Makes, IsFrom-more, IsNet-Makes, Makes-refl, Makes-trans, Reads-joined, Reads-refl}
use Rattle.ap_pipe.specs.declared.table.Home.{Home}
use Rattle.ap_stage.specs.declared.node.Course.{Course}
use Rattle.ap_stage.specs.declared.source.Ground.{Ground}
use Rattle.ap_stage.specs.Reads.{AreFrom}
use Rattle.ap_stage.specs.Sources.{source_numbers}
use Rattle.ap_stage.specs.Trees.{IsShallow}
use Rattle.ap_stage.proofs.Followed.{each_then, from_later, from_reads, old_from}
use Rattle.ap_stage.proofs.Shallow.{shallow_on}
use Rattle.ap_stage.proofs.Users.{course_on}
use Rattle.ap_desc.proofs.OnePort.{each_as}
use Rattle.ap_course.specs.Homes.{AreSlots}
use Rattle.ap_course.specs.Starts.{AreConds, AreStarted, IsStarted, IsStartedAt, sources}

-- What holds of a started instruction holds where other pieces come before and after it.
pub started_on : (design : Design) (stage k : ℕ) (instr : Instr) (ground : Ground) (homes : List Home) (slots : List Wire) (a b c d : Draft) (cond : Wire) (course : Course) → Reads (sources ground (numbers slots)) a b → Makes a b → Reads (sources ground (numbers slots)) c d
    → Makes c d → IsStarted design stage k instr ground homes slots b c cond course → IsStarted design stage k instr ground homes slots a d cond course
started_on design stage k instr ground homes slots a b c d cond course before first after second h =
    let from = sources ground (numbers slots) in
    let all : Each (IsFrom from a b) from = old_from from a b from (λ n at. at) in
    let middle : AreFrom from a c (source_numbers ground course.row.items) = from_later from from (source_numbers ground course.row.items) a b c (from_reads from a b before) h.from in
    record {
      of = h.of;
      cond_is = h.cond_is;
      course = course_on c d ground course second.adds h.course;
      whole = h.whole;
      unserved = h.unserved;
      live = λ i live. (let l = h.live i live in record { stored = l.stored; local = l.local; home = l.home; has = record { net = l.has.net; at = l.has.at; carries = Carries-Makes second l.has.carries } });
      from = record {
        reads = Reads-joined from from a c d middle.reads after (old_from from a c from (λ n at. at));
        results = each_then (IsFrom from a c) (IsFrom from a d) (source_numbers ground course.row.items) (λ n f. IsFrom-more from a c d n after.extends f) middle.results;
      };
      makes = Makes-trans a c d (Makes-trans a b c first h.makes) second;
    }

-- those of the first so many instructions
pub record AreUnderWay (design : Design) (stage : ℕ) (ground : Ground) (homes : List Home) (slots conds : List Wire) (count : ℕ) (old new : Draft) (courses : List Course) : Type 0 where
  pub long : length courses ≡ count
  pub each : (k : ℕ) (c : Course) → slice_get courses k ≡ Some c → IsStartedAt design stage ground homes slots conds old new k c
  pub reads : Reads (sources ground (numbers slots)) old new
  pub makes : Makes old new

module _ (design : Design) (stage : ℕ) (ground : Ground) (homes : List Home) (slots conds : List Wire) where
  pub none_under_way : (a : Draft) → AreUnderWay design stage ground homes slots conds 0 a a []
  none_under_way a = record { long = refl; each = λ k c at. absurd cc; reads = Reads-refl (sources ground (numbers slots)) a; makes = Makes-refl a }

  last_or_before : (xs : List Course) (x : Course) (k : ℕ) (c : Course) → slice_get (xs ++ x ∷ []) k ≡ Some c → (slice_get xs k ≡ Some c) ⊎ ((k ≡ length xs) × (x ≡ c))
  last_or_before [] x zero c at = inr (refl, same_Some x c at)
  last_or_before [] x (suc k) c at = absurd cc
  last_or_before (y ∷ xs) x zero c at = inl at
  last_or_before (y ∷ xs) x (suc k) c at = go (last_or_before xs x k c at)
    where
      go : (slice_get xs k ≡ Some c) ⊎ ((k ≡ length xs) × (x ≡ c)) → (slice_get xs k ≡ Some c) ⊎ ((suc k ≡ suc (length xs)) × (x ≡ c))
      go (inl h) = inl h
      go (inr h) = inr (ap suc h.0, h.1)

  pub one_more : (count : ℕ) (a b c : Draft) (courses : List Course) (course : Course) → AreUnderWay design stage ground homes slots conds count a b courses → IsStartedAt design stage ground homes slots conds b c count course
      → Reads (sources ground (numbers slots)) b c → Makes b c → AreUnderWay design stage ground homes slots conds (count + 1) a c (courses ++ course ∷ [])
  one_more count a b c courses course h started reads makes =
      let from = sources ground (numbers slots) in
      record {
        long = length-append courses (course ∷ []) ∙ ap (λ n. n + 1) h.long;
        each = λ k x at instr cond there has. go k x instr cond there has (last_or_before courses course k x at);
        reads = Reads-joined from from a b c h.reads reads (old_from from a b from (λ n at. at));
        makes = Makes-trans a b c h.makes makes;
      }
    where
      go : (k : ℕ) (x : Course) (instr : Instr) (cond : Wire) → slice_get design.instrs k ≡ Some instr → slice_get conds k ≡ Some cond → (slice_get courses k ≡ Some x) ⊎ ((k ≡ length courses) × (course ≡ x)) → IsStarted design stage k instr ground homes slots a c cond x
      go k x instr cond there has (inl at) = started_on design stage k instr ground homes slots a a b c cond x (Reads-refl (sources ground (numbers slots)) a) (Makes-refl a) reads makes (h.each k x at instr cond there has)
      go k x instr cond there has (inr (place, same)) =
          let is : k ≡ count = place ∙ h.long in
          let own = started instr cond (ap (slice_get design.instrs) (sym is) ∙ there) (ap (slice_get conds) (sym is) ∙ has) in
          let at_place = subst (λ n. IsStarted design stage n instr ground homes slots b c cond course) (sym is) own in
          let all = started_on design stage k instr ground homes slots a b c c cond course h.reads h.makes (Reads-refl (sources ground (numbers slots)) c) (Makes-refl c) at_place in
          subst (λ z. IsStarted design stage k instr ground homes slots a c cond z) same all

  pub all_started : (count : ℕ) (a b : Draft) (courses : List Course) → count ≡ length design.instrs → AreUnderWay design stage ground homes slots conds count a b courses → AreStarted design stage ground homes slots conds a b courses
  all_started count a b courses all h = record { long = h.long ∙ all; each = h.each; reads = h.reads; makes = h.makes }

pub slots_on : (a b : Draft) (widths : List ℕ) (slots : List Wire) → Makes a b → AreSlots a.nets widths slots → AreSlots b.nets widths slots
slots_on a b widths slots makes h = record { nets_are = each_as (IsNet a.nets) (IsNet b.nets) (λ w net. IsNet-Makes _ _ _ makes net) slots h.nets_are; wide = h.wide }

pub conds_on : (design : Design) (a b : Draft) (conds : List Wire) → Makes a b → AreConds design a.nets conds → AreConds design b.nets conds
conds_on design a b conds makes h = record { long = h.long; nets_are = each_as (IsNet a.nets) (IsNet b.nets) (λ w net. IsNet-Makes _ _ _ makes net) conds h.nets_are; one_bit = h.one_bit }

pub low_on : (a b : Draft) (nets : List ℕ) → Makes a b → Each (IsShallow a 0) nets → Each (IsShallow b 0) nets
low_on a b nets makes each = each_then (IsShallow a 0) (IsShallow b 0) nets (λ n s. shallow_on a b 0 n makes.adds.extends s) each
