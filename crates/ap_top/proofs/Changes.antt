-- What a call that adds a text to a file did, whatever it answers.
use Rattle.std.proofs.Common.{ℕ, List, ◌++◌, length, Some, None, Option, Result, Ok, Err, sym, ap, inr, ◌∙◌, arith}
use Rattle.std.proofs.lemmas.List.{take_all}
use Rattle.std.specs.Prelude.{OnOk, OnErr}
use Rattle.std.specs.FinMap.{insert}
use Rattle.ap_desk.specs.Files.{Files, content, Goes, Gains, GainsFront}

-- a whole text is a front of itself
whole_front : (a b : Option Files) (name text : List ℕ) → Goes (Gains name text) a b → Goes (GainsFront name text) a b
whole_front None None name text p = tt
whole_front None (Some b) name text p = absurd p
whole_front (Some a) None name text p = absurd p
whole_front (Some a) (Some b) name text p = inr (length text, p ∙ ap (λ t. insert a name (content a name ++ t)) (sym (take_all (length text) text (omega arith))))

-- whatever a call that adds a text answers, a front of it was added
pub either_front : {T E : Type 0} (result : Result T E) (a b : Option Files) (name text : List ℕ) → OnOk result (Goes (Gains name text) a b) → OnErr result (Goes (GainsFront name text) a b) → Goes (GainsFront name text) a b
either_front (Ok value) a b name text p q = whole_front a b name text p
either_front (Err fault) a b name text p q = q
