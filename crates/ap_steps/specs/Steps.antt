-- A draft that grows in steps.
use Rattle.std.specs.Prelude.{◌≡◌, List, [], ◌∷◌, ◌++◌, flat_map}
use Rattle.ap_net.specs.declared.net.Instance.{Instance}
use Rattle.ap_net.specs.Draft.{Draft, Extends}
use Rattle.ap_net.specs.Modules.{ports_among}

-- a step: the draft that it makes, and the instances that it places
pub record Step : Type 0 where
  pub made : Draft
  pub placed : List Instance

-- the draft after all steps, and the instances that they placed
abbrev pub last_draft : Draft → List Step → Draft
last_draft d [] = d
last_draft d (s ∷ steps) = last_draft s.made steps

abbrev pub placed_by : List Step → List Instance
placed_by steps = flat_map (λ (s : Step). s.placed) steps

-- of each step and the draft from which it starts, which is the one that the step before it made
abbrev pub AtEachStep : (Draft → Step → Type 0) → Draft → List Step → Type 0
AtEachStep Fact d [] = Unit {0}
AtEachStep Fact d (s ∷ steps) = Fact d s × AtEachStep Fact s.made steps

-- All that was there stays, these instances came, and no port.
pub record Grows (old : Draft) (s : Step) : Type 0 where
  pub extends : Extends old s.made
  pub instances : s.made.instances ≡ old.instances ++ s.placed
  pub ports : ports_among (s.made).nets ≡ ports_among old.nets

-- the draft and the one that the step makes grow to the last
pub record IsBefore (last old : Draft) (s : Step) : Type 0 where
  pub start : Extends old last
  pub end : Extends s.made last

-- The last draft has the instances of the first, then those of all steps, and the same ports; each draft in between grows to it.
pub record HasGrown (first : Draft) (steps : List Step) : Type 0 where
  pub extends : Extends first (last_draft first steps)
  pub before : AtEachStep (IsBefore (last_draft first steps)) first steps
  pub instances : (last_draft first steps).instances ≡ first.instances ++ placed_by steps
  pub ports : ports_among (last_draft first steps).nets ≡ ports_among first.nets

abbrev pub StepsGrow : Type 0
StepsGrow = (first : Draft) (steps : List Step) → AtEachStep Grows first steps → HasGrown first steps
