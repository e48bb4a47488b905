-- What a draft has after all steps.
use Rattle.std.proofs.Common.{List, [], ◌∷◌, ◌++◌, refl, sym, ap, ◌∙◌, append-nil, append_assoc}
use Rattle.ap_net.specs.declared.net.Instance.{Instance}
use Rattle.ap_net.specs.Draft.{Draft}
use Rattle.ap_net.proofs.Drafts.{Extends-refl, Extends-trans}
use Rattle.ap_steps.specs.Steps.{StepsGrow, last_draft, placed_by}

pub grown : StepsGrow
grown d [] h = record { extends = Extends-refl d; before = tt; instances = sym (append-nil d.instances); ports = refl }
grown d (s ∷ steps) h =
    let rest = grown s.made steps h.1 in
    let last : Draft = last_draft s.made steps in
    record {
      extends = Extends-trans d s.made last (h.0).extends rest.extends;
      before = (record { start = Extends-trans d s.made last (h.0).extends rest.extends; end = rest.extends }, rest.before);
      instances = rest.instances ∙ ap (λ (xs : List Instance). xs ++ placed_by steps) (h.0).instances ∙ append_assoc d.instances s.placed (placed_by steps);
      ports = rest.ports ∙ (h.0).ports;
    }
