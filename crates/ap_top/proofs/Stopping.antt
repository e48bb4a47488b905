-- What a call that gave up left: the work so far, and then a front of the line of its trouble.
use Rattle.std.proofs.Common.{◌≡◌, ℕ, List, Some, None, Option, refl, inr, sym, subst, ◌∙◌, arith}
use Rattle.ap_bits.specs.declared.card.Card.{Card}
use Rattle.ap_desk.specs.Files.{Files, Goes, GainsFront, stdout_name}
use Rattle.ap_top.specs.declared.refusal.Refusal.{Refusal}
use Rattle.ap_top.specs.declared.refusal.Trouble.{Trouble}
use Rattle.ap_top.specs.declared.refusal.Trouble.TheVariants.{Desk, Memory}
use Rattle.ap_top.specs.Refusals.{refusal_line, trouble_status, trouble_line}
use Rattle.ap_top.specs.Inputs.{IsRefusalDue}
use Rattle.ap_top.specs.Endings.{IsPartDone, StopsShort}

module _ (cards : List Card) where
  -- a status is of one trouble
  trouble_same : (a b : Trouble) → trouble_status a ≡ trouble_status b → a ≡ b
  trouble_same Desk Desk e = refl
  trouble_same Desk Memory e = let no : ⊥ = omega arith in absurd no
  trouble_same Memory Desk e = let no : ⊥ = omega arith in absurd no
  trouble_same Memory Memory e = refl

  -- the work so far and then the line
  stops_short : (words : List (List ℕ)) (line : List ℕ) (a b c : Option Files) → Goes (IsPartDone cards words) a b → Goes (GainsFront stdout_name line) b c → Goes (StopsShort cards words line) a c
  stops_short words line None None None p q = tt
  stops_short words line None None (Some c) p q = absurd q
  stops_short words line None (Some b) c p q = absurd p
  stops_short words line (Some a) None c p q = absurd p
  stops_short words line (Some a) (Some b) None p q = absurd q
  stops_short words line (Some a) (Some b) (Some c) p q = record { between = b; work = p; last = q }

  -- the same, where the status says which trouble it was
  pub stopped_by : (words : List (List ℕ)) (a b c : Option Files) (trouble : Trouble) (status : ℕ) → status ≡ trouble_status trouble → Goes (IsPartDone cards words) a b → Goes (GainsFront stdout_name (trouble_line trouble)) b c → (other : Trouble) → status ≡ trouble_status other → Goes (StopsShort cards words (trouble_line other)) a c
  stopped_by words a b c trouble status is p q other e = subst (λ t. Goes (StopsShort cards words (trouble_line t)) a c) (trouble_same trouble other (sym is ∙ e)) (stops_short words (trouble_line trouble) a b c p q)

  -- a refusal's line was printed in part
  pub printed_in_part : (words : List (List ℕ)) (a b c : Option Files) (refusal : Refusal) → b ≡ a → IsRefusalDue cards words a refusal → Goes (GainsFront stdout_name (refusal_line refusal)) b c → Goes (IsPartDone cards words) a c
  printed_in_part words a b c refusal same due h = by a c due (subst (λ (t : Option Files). Goes (GainsFront stdout_name (refusal_line refusal)) t c) same h)
    where
      by : (a c : Option Files) → IsRefusalDue cards words a refusal → Goes (GainsFront stdout_name (refusal_line refusal)) a c → Goes (IsPartDone cards words) a c
      by None None due h = tt
      by None (Some c) due h = absurd h
      by (Some a) None due h = absurd h
      by (Some a) (Some c) due h = inr (inr (refusal, due, h))
