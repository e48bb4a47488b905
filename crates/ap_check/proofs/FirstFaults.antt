-- Which fault is the first one.
use Rattle.std.proofs.Common.{◌≡◌, Bool, true, false, not, ◌&&◌, ◌||◌, Some, None, refl}
use Rattle.ap_desc.specs.declared.fault.Fault.TheVariants as f
use Rattle.ap_check.specs.Drafts.{first_width_fault}
use Rattle.ap_check.specs.Tables.{first_name_fault}

pub no_name_fault : (u t k o : Bool) → u ≡ false → t ≡ false → k ≡ false → o ≡ false → first_name_fault u t k o ≡ None
unfolding first_name_fault
no_name_fault u t k o eu et ek eo = rw (eu, et, ek, eo) refl

pub unknown_first : (u t k o : Bool) → u ≡ true → first_name_fault u t k o ≡ Some f.Unknown
unfolding first_name_fault
unknown_first u t k o eu = rw eu refl

pub twice_first : (u t k o : Bool) → u ≡ false → t ≡ true → first_name_fault u t k o ≡ Some f.Twice
unfolding first_name_fault
twice_first u t k o eu et = rw (eu, et) refl

pub no_kind_first : (u t k o : Bool) → u ≡ false → t ≡ false → k ≡ true → first_name_fault u t k o ≡ Some f.NoKind
unfolding first_name_fault
no_kind_first u t k o eu et ek = rw (eu, et, ek) refl

pub without_first : (u t k o : Bool) → u ≡ false → t ≡ false → k ≡ false → o ≡ true → first_name_fault u t k o ≡ Some f.NoOperation
unfolding first_name_fault
without_first u t k o eu et ek eo = rw (eu, et, ek, eo) refl

pub or_neither : (a b : Bool) → a ≡ false → b ≡ false → (a || b) ≡ false
or_neither a b ea eb = rw (ea, eb) refl

pub or_first : (a b : Bool) → a ≡ true → (a || b) ≡ true
or_first a b ea = rw ea refl

pub or_second : (a b : Bool) → b ≡ true → (a || b) ≡ true
or_second true b eb = refl
or_second false b eb = eb

pub ruleset first_faults = (no_name_fault, unknown_first, twice_first, no_kind_first, without_first, or_neither, or_first, or_second)

pub no_width_fault : (r d s w t g k : Bool) → r ≡ false → d ≡ false → s ≡ false → w ≡ false → t ≡ false → g ≡ false → k ≡ false → first_width_fault r d s w t g k ≡ None
unfolding first_width_fault
no_width_fault r d s w t g k er ed es ew et eg ek = rw (er, ed, es, ew, et, eg, ek) refl

pub range_first : (r d s w t g k : Bool) → r ≡ true → first_width_fault r d s w t g k ≡ Some f.Range
unfolding first_width_fault
range_first r d s w t g k er = rw er refl

pub differs_first : (r d s w t g k : Bool) → r ≡ false → d ≡ true → first_width_fault r d s w t g k ≡ Some f.Differs
unfolding first_width_fault
differs_first r d s w t g k er ed = rw (er, ed) refl

pub slice_first : (r d s w t g k : Bool) → r ≡ false → d ≡ false → s ≡ true → first_width_fault r d s w t g k ≡ Some f.Slice
unfolding first_width_fault
slice_first r d s w t g k er ed es = rw (er, ed, es) refl

pub too_wide_first : (r d s w t g k : Bool) → r ≡ false → d ≡ false → s ≡ false → w ≡ true → first_width_fault r d s w t g k ≡ Some f.TooWideConstant
unfolding first_width_fault
too_wide_first r d s w t g k er ed es ew = rw (er, ed, es, ew) refl

pub one_bit_first : (r d s w t g k : Bool) → r ≡ false → d ≡ false → s ≡ false → w ≡ false → t ≡ true → first_width_fault r d s w t g k ≡ Some f.NotOneBit
unfolding first_width_fault
one_bit_first r d s w t g k er ed es ew et = rw (er, ed, es, ew, et) refl

pub target_first : (r d s w t g k : Bool) → r ≡ false → d ≡ false → s ≡ false → w ≡ false → t ≡ false → g ≡ true → first_width_fault r d s w t g k ≡ Some f.Target
unfolding first_width_fault
target_first r d s w t g k er ed es ew et eg = rw (er, ed, es, ew, et, eg) refl

pub refused_first : (r d s w t g k : Bool) → r ≡ false → d ≡ false → s ≡ false → w ≡ false → t ≡ false → g ≡ false → k ≡ true → first_width_fault r d s w t g k ≡ Some f.KindRefuses
unfolding first_width_fault
refused_first r d s w t g k er ed es ew et eg ek = rw (er, ed, es, ew, et, eg, ek) refl

pub not_kept : (a : Bool) → a ≡ true → not a ≡ false
not_kept a e = rw e refl

pub not_broken : (a : Bool) → a ≡ false → not a ≡ true
not_broken a e = rw e refl

pub and_both : (a b : Bool) → a ≡ true → b ≡ true → (a && b) ≡ true
and_both a b ea eb = rw (ea, eb) refl

pub and_first : (a b : Bool) → a ≡ false → (a && b) ≡ false
and_first a b ea = rw ea refl

pub and_second : (a b : Bool) → b ≡ false → (a && b) ≡ false
and_second true b eb = eb
and_second false b eb = refl

pub ruleset width_faults = (no_width_fault, range_first, differs_first, slice_first, too_wide_first, one_bit_first, target_first, refused_first, or_neither, or_first, or_second, not_kept, not_broken, and_both, and_first, and_second)
