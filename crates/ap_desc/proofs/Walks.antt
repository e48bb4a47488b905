-- Walks along steps to which some more are added, all to one end.
use Rattle.std.proofs.Common.{List, [], ◌∷◌, ◌++◌, inl, inr, refl, subst}
use Rattle.std.specs.Prelude.{◌⊎◌, ◌↔◌}
use Rattle.ap_desc.proofs.Listed.{leads_on}
use Rattle.ap_desc.proofs.Loops.{loop_maps, walk_maps}
use Rattle.ap_desc.specs.Chains.{HasLoop, IsWalk, Leads, StepsTo}

pub leads_maps : {X : Type 0} (Step More : X → X → Type 0) → ((x y : X) → Step x y → More x y) → (x y : X) → Leads Step x y → Leads More x y
leads_maps Step More up x y (inl same) = inl same
leads_maps Step More up x y (inr (between, walk)) = inr (between, walk_maps Step More up x (between ++ y ∷ []) walk)

module _ {X : Type 0} (Step : X → X → Type 0) (From : X → Type 0) (to : X) where
  -- a way by the old steps, or one that goes over a new one last
  abbrev Either : X → X → Type 0
  Either x y = Leads Step x y ⊎ ((u : X) × From u × Leads Step x u × Leads Step to y)

  one_step : (x y : X) → Step x y → Leads Step x y
  one_step x y step = inr ([], (step, tt))

  -- one more step in front
  step_on : (x z y : X) → StepsTo Step From to x z → Either z y → Either x y
  step_on x z y (inl step) (inl rest) = inl (leads_on Step x z y (one_step x z step) rest)
  step_on x z y (inl step) (inr (u, from, one, two)) = inr (u, from, leads_on Step x z u (one_step x z step) one, two)
  step_on x z y (inr (from, at)) (inl rest) = inr (x, from, inl refl, subst (λ w. Leads Step w y) at rest)
  step_on x z y (inr (from, at)) (inr (u, other, one, two)) = inr (x, from, inl refl, two)

  walk_splits : (x : X) (between : List X) (y : X) → IsWalk (StepsTo Step From to) x (between ++ y ∷ []) → Either x y
  walk_splits x [] y walk = step_on x y y walk.0 (inl (inl refl))
  walk_splits x (z ∷ between) y walk = step_on x z y walk.0 (walk_splits z between y walk.1)

  walk_more : (x : X) (xs : List X) → IsWalk Step x xs → IsWalk (StepsTo Step From to) x xs
  walk_more x [] walk = tt
  walk_more x (z ∷ xs) walk = (inl walk.0, walk_more z xs walk.1)

  leads_more : (x y : X) → Leads Step x y → Leads (StepsTo Step From to) x y
  leads_more x y (inl same) = inl same
  leads_more x y (inr (between, walk)) = inr (between, walk_more x (between ++ y ∷ []) walk)

  new_step : (u : X) → From u → Leads (StepsTo Step From to) u to
  new_step u from = inr ([], (inr (from, refl), tt))

  pub leads_grow : (x y : X) → Leads (StepsTo Step From to) x y ↔ Either x y
  leads_grow x y = (there, back) where
    there : Leads (StepsTo Step From to) x y → Either x y
    there (inl same) = inl (inl same)
    there (inr (between, walk)) = walk_splits x between y walk

    back : Either x y → Leads (StepsTo Step From to) x y
    back (inl way) = leads_more x y way
    back (inr (u, from, one, two)) =
        leads_on (StepsTo Step From to) x u y (leads_more x u one) (leads_on (StepsTo Step From to) u to y (new_step u from) (leads_more to y two))

  -- a loop goes by the old steps, or one of the new ones leads back to where it begins
  loop_of_way : (x z : X) → StepsTo Step From to x z → Either z x → HasLoop Step ⊎ ((u : X) × From u × Leads Step to u)
  loop_of_way x z (inl step) (inl (inl same)) = inl (x, [], (subst (Step x) same step, tt))
  loop_of_way x z (inl step) (inl (inr (between, walk))) = inl (x, z ∷ between, (step, walk))
  loop_of_way x z (inl step) (inr (u, from, one, two)) = inr (u, from, leads_on Step to x u two (leads_on Step x z u (one_step x z step) one))
  loop_of_way x z (inr (from, at)) (inl rest) = inr (x, from, subst (λ w. Leads Step w x) at rest)
  loop_of_way x z (inr (from, at)) (inr (u, other, one, two)) = inr (x, from, two)

  close_way : (x z : X) → StepsTo Step From to x z → Leads (StepsTo Step From to) z x → HasLoop (StepsTo Step From to)
  close_way x z step (inl same) = (x, [], (subst (StepsTo Step From to x) same step, tt))
  close_way x z step (inr (between, walk)) = (x, z ∷ between, (step, walk))

  pub loop_grows : HasLoop (StepsTo Step From to) ↔ (HasLoop Step ⊎ ((u : X) × From u × Leads Step to u))
  loop_grows = (there, back) where
    there : HasLoop (StepsTo Step From to) → HasLoop Step ⊎ ((u : X) × From u × Leads Step to u)
    there (x, [], walk) = loop_of_way x x walk.0 (inl (inl refl))
    there (x, z ∷ between, walk) = loop_of_way x z walk.0 (walk_splits z between x walk.1)

    back : (HasLoop Step ⊎ ((u : X) × From u × Leads Step to u)) → HasLoop (StepsTo Step From to)
    back (inl loop) = loop_maps Step (StepsTo Step From to) (λ x y step. inl step) loop
    back (inr (u, from, way)) = close_way u to (inr (from, refl)) (leads_more to u way)
