-- The fault of modules by the first line of its kind.
use Rattle.std.proofs.Common.{◌≡◌, ℕ, List, Option, Some, None, sym, subst, ◌∙◌}
use Rattle.ap_vr.specs.declared.fault.NetFault.{NetFault}
use Rattle.ap_vr.specs.declared.fault.NetFault.TheVariants.{At}
use Rattle.ap_vr.specs.declared.fault.NetKind.{NetKind}
use Rattle.ap_vr.specs.declared.fault.NetKind.TheVariants as kind
use Rattle.ap_vr.specs.declared.module.NamedModule.{NamedModule}
use Rattle.ap_vr.specs.Judged.{AreNamed, IsFaultOf, first_driven_twice, first_misfit, first_undriven}
use Rattle.ap_vr.specs.Scope.{first_repeated, first_unknown}

-- there is a line, and it is the fault
abbrev IsAt : NetKind → Option ℕ → NetFault → Type 0
IsAt k line why = (n : ℕ) × (line ≡ Some n) × (why ≡ At n k)

pub unknown_fault : (modules : List NamedModule) (line : Option ℕ) (why : NetFault) → line ≡ first_unknown modules → IsAt kind.UnknownName line why → IsFaultOf modules why
unknown_fault modules line why is h = subst (IsFaultOf modules) (sym h.2) (sym is ∙ h.1)

pub repeated_fault : (modules : List NamedModule) (unknown line : Option ℕ) (why : NetFault) → unknown ≡ first_unknown modules → unknown ≡ None → line ≡ first_repeated modules → IsAt kind.TwiceNamed line why → IsFaultOf modules why
repeated_fault modules unknown line why u none is h = subst (IsFaultOf modules) (sym h.2) (sym u ∙ none, sym is ∙ h.1)

pub twice_fault : (modules : List NamedModule) (line : Option ℕ) (why : NetFault) → AreNamed modules → line ≡ first_driven_twice modules → IsAt kind.TwiceDriven line why → IsFaultOf modules why
twice_fault modules line why named is h = subst (IsFaultOf modules) (sym h.2) (named, sym is ∙ h.1)

pub undriven_fault : (modules : List NamedModule) (twice line : Option ℕ) (why : NetFault) → AreNamed modules → twice ≡ first_driven_twice modules → twice ≡ None → line ≡ first_undriven modules → IsAt kind.NotDriven line why → IsFaultOf modules why
undriven_fault modules twice line why named t none is h = subst (IsFaultOf modules) (sym h.2) (named, sym t ∙ none, sym is ∙ h.1)

pub misfit_fault : (modules : List NamedModule) (twice undriven line : Option ℕ) (why : NetFault) → AreNamed modules → twice ≡ first_driven_twice modules → twice ≡ None → undriven ≡ first_undriven modules → undriven ≡ None
    → line ≡ first_misfit modules → IsAt kind.WidthDiffers line why → IsFaultOf modules why
misfit_fault modules twice undriven line why named t none u free is h = subst (IsFaultOf modules) (sym h.2) (named, (sym t ∙ none, sym u ∙ free), sym is ∙ h.1)
