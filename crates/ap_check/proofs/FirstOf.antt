-- The first fault of a statement in a phase, from the faults in the order of their numbers.
use Rattle.std.proofs.Common.{◌≡◌, ℕ, ◌<◌, Bool, true, false, refl, arith}
use Rattle.ap_desc.specs.declared.fault.Fault.{Fault}
use Rattle.ap_desc.specs.declared.fault.Fault.TheVariants as f
use Rattle.ap_desc.specs.FaultTable.{phase_of, number_of}
use Rattle.ap_check.specs.Drafts.{first_width_fault}
use Rattle.ap_check.specs.Phases.{IsFaultOf}
use Rattle.ap_check.specs.Tables.{first_name_fault}

-- what holds of each kind of the second phase, and of the third
of_names : (P : Fault → Type 0) → P f.Unknown → P f.Twice → P f.NoKind → P f.NoOperation → (kind : Fault) → phase_of kind ≡ 2 → P kind
of_names P one two three four f.Unknown e = one
of_names P one two three four f.Twice e = two
of_names P one two three four f.NoKind e = three
of_names P one two three four f.NoOperation e = four
of_names P one two three four _ e = absurd (omega arith)

of_widths : (P : Fault → Type 0) → P f.Range → P f.Differs → P f.Slice → P f.TooWideConstant → P f.NotOneBit → P f.Target → P f.KindRefuses → (kind : Fault) → phase_of kind ≡ 3 → P kind
of_widths P one two three four five six seven f.Range e = one
of_widths P one two three four five six seven f.Differs e = two
of_widths P one two three four five six seven f.Slice e = three
of_widths P one two three four five six seven f.TooWideConstant e = four
of_widths P one two three four five six seven f.NotOneBit e = five
of_widths P one two three four five six seven f.Target e = six
of_widths P one two three four five six seven f.KindRefuses e = seven
of_widths P one two three four five six seven _ e = absurd (omega arith)

abbrev Below : (Fault → Bool) → ℕ → Fault → Type 0
Below test n kind = number_of kind < n → test kind ≡ false

pub first_of_names : (test : Fault → Bool) (u t k o : Bool) → test f.Unknown ≡ u → test f.Twice ≡ t → test f.NoKind ≡ k → test f.NoOperation ≡ o → IsFaultOf test 2 (first_name_fault u t k o)
unfolding first_name_fault
first_of_names test true t k o eu et ek eo = record {
  phase = refl;
  holds = eu;
  first = of_names (Below test 1) (λ low. absurd (omega arith)) (λ low. absurd (omega arith)) (λ low. absurd (omega arith)) (λ low. absurd (omega arith));
}
first_of_names test false true k o eu et ek eo = record {
  phase = refl;
  holds = et;
  first = of_names (Below test 2) (λ low. eu) (λ low. absurd (omega arith)) (λ low. absurd (omega arith)) (λ low. absurd (omega arith));
}
first_of_names test false false true o eu et ek eo = record {
  phase = refl;
  holds = ek;
  first = of_names (Below test 3) (λ low. eu) (λ low. et) (λ low. absurd (omega arith)) (λ low. absurd (omega arith));
}
first_of_names test false false false true eu et ek eo = record {
  phase = refl;
  holds = eo;
  first = of_names (Below test 4) (λ low. eu) (λ low. et) (λ low. ek) (λ low. absurd (omega arith));
}
first_of_names test false false false false eu et ek eo = of_names (λ kind. test kind ≡ false) eu et ek eo

pub first_of_widths : (test : Fault → Bool) (r d s w t g k : Bool) → test f.Range ≡ r → test f.Differs ≡ d → test f.Slice ≡ s → test f.TooWideConstant ≡ w → test f.NotOneBit ≡ t → test f.Target ≡ g → test f.KindRefuses ≡ k
    → IsFaultOf test 3 (first_width_fault r d s w t g k)
unfolding first_width_fault
first_of_widths test true d s w t g k er ed es ew et eg ek = record {
  phase = refl;
  holds = er;
  first = of_widths (Below test 1) (λ low. absurd (omega arith)) (λ low. absurd (omega arith)) (λ low. absurd (omega arith)) (λ low. absurd (omega arith)) (λ low. absurd (omega arith)) (λ low. absurd (omega arith)) (λ low. absurd (omega arith));
}
first_of_widths test false true s w t g k er ed es ew et eg ek = record {
  phase = refl;
  holds = ed;
  first = of_widths (Below test 2) (λ low. er) (λ low. absurd (omega arith)) (λ low. absurd (omega arith)) (λ low. absurd (omega arith)) (λ low. absurd (omega arith)) (λ low. absurd (omega arith)) (λ low. absurd (omega arith));
}
first_of_widths test false false true w t g k er ed es ew et eg ek = record {
  phase = refl;
  holds = es;
  first = of_widths (Below test 3) (λ low. er) (λ low. ed) (λ low. absurd (omega arith)) (λ low. absurd (omega arith)) (λ low. absurd (omega arith)) (λ low. absurd (omega arith)) (λ low. absurd (omega arith));
}
first_of_widths test false false false true t g k er ed es ew et eg ek = record {
  phase = refl;
  holds = ew;
  first = of_widths (Below test 4) (λ low. er) (λ low. ed) (λ low. es) (λ low. absurd (omega arith)) (λ low. absurd (omega arith)) (λ low. absurd (omega arith)) (λ low. absurd (omega arith));
}
first_of_widths test false false false false true g k er ed es ew et eg ek = record {
  phase = refl;
  holds = et;
  first = of_widths (Below test 5) (λ low. er) (λ low. ed) (λ low. es) (λ low. ew) (λ low. absurd (omega arith)) (λ low. absurd (omega arith)) (λ low. absurd (omega arith));
}
first_of_widths test false false false false false true k er ed es ew et eg ek = record {
  phase = refl;
  holds = eg;
  first = of_widths (Below test 6) (λ low. er) (λ low. ed) (λ low. es) (λ low. ew) (λ low. et) (λ low. absurd (omega arith)) (λ low. absurd (omega arith));
}
first_of_widths test false false false false false false true er ed es ew et eg ek = record {
  phase = refl;
  holds = ek;
  first = of_widths (Below test 7) (λ low. er) (λ low. ed) (λ low. es) (λ low. ew) (λ low. et) (λ low. eg) (λ low. absurd (omega arith));
}
first_of_widths test false false false false false false false er ed es ew et eg ek = of_widths (λ kind. test kind ≡ false) er ed es ew et eg ek
