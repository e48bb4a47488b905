-- Ports that are made one after another.
use Rattle.std.proofs.Common.{◌≡◌, ℕ, zero, suc, ◌+◌, List, [], ◌∷◌, ◌++◌, length, Some, inl, inr, refl, sym, ap, subst, ◌∙◌, length-append}
use Rattle.std.specs.Prelude.{◌⊎◌, slice_get}
use Rattle.std.proofs.lemmas.Option.{same_Some}
use Rattle.ap_desc.specs.declared.design.Design.{Design}
use Rattle.ap_desc.specs.declared.design.Node.{Node as DesignNode}
use Rattle.ap_merge.specs.declared.table.Choice.{Choice}
use Rattle.ap_stage.specs.declared.chain.Node.{Node}
use Rattle.ap_stages.specs.Supplies.{IsNodeFor}
use Rattle.ap_stages.specs.declared.nodes.Supplied.{Supplied}

pub last_or_before : {X : Type 0} (xs : List X) (x : X) (k : ℕ) (c : X) → slice_get (xs ++ x ∷ []) k ≡ Some c → (slice_get xs k ≡ Some c) ⊎ ((k ≡ length xs) × (x ≡ c))
last_or_before [] x zero c at = inr (refl, same_Some x c at)
last_or_before [] x (suc k) c at = absurd cc
last_or_before (y ∷ xs) x zero c at = inl at
last_or_before (y ∷ xs) x (suc k) c at = go (last_or_before xs x k c at)
  where
    go : (slice_get xs k ≡ Some c) ⊎ ((k ≡ length xs) × (x ≡ c)) → (slice_get xs k ≡ Some c) ⊎ ((suc k ≡ suc (length xs)) × (x ≡ c))
    go (inl h) = inl h
    go (inr h) = inr (ap suc h.0, h.1)

pub nodes_more : (design : Design) (choices : List Choice) (supplies : List Supplied) (order : List DesignNode) (count : ℕ) (nodes : List Node) (y : DesignNode) (made : Node) → length nodes ≡ count
    → ((k : ℕ) (x : DesignNode) (n : Node) → slice_get order k ≡ Some x → slice_get nodes k ≡ Some n → IsNodeFor design choices supplies x n) → slice_get order count ≡ Some y → IsNodeFor design choices supplies y made
    → (k : ℕ) (x : DesignNode) (n : Node) → slice_get order k ≡ Some x → slice_get (nodes ++ made ∷ []) k ≡ Some n → IsNodeFor design choices supplies x n
nodes_more design choices supplies order count nodes y made long each here is k x n at there = go (last_or_before nodes made k n there)
  where
    go : (slice_get nodes k ≡ Some n) ⊎ ((k ≡ length nodes) × (made ≡ n)) → IsNodeFor design choices supplies x n
    go (inl h) = each k x n at h
    go (inr h) =
        let same : y ≡ x = same_Some y x (sym here ∙ sym (ap (slice_get order) (h.0 ∙ long)) ∙ at) in
        subst (IsNodeFor design choices supplies x) h.1 (subst (λ z. IsNodeFor design choices supplies z made) same is)

-- the ports of the first so many nodes
pub record MadeSoFar (design : Design) (choices : List Choice) (supplies : List Supplied) (order : List DesignNode) (count : ℕ) (nodes : List Node) : Type 0 where
  pub long : length nodes ≡ count
  pub each : (k : ℕ) (x : DesignNode) (n : Node) → slice_get order k ≡ Some x → slice_get nodes k ≡ Some n → IsNodeFor design choices supplies x n

pub more_made : (design : Design) (choices : List Choice) (supplies : List Supplied) (order : List DesignNode) (count : ℕ) (nodes later : List Node) (y : DesignNode) (made : Node) → length nodes ≡ count
    → ((k : ℕ) (x : DesignNode) (n : Node) → slice_get order k ≡ Some x → slice_get nodes k ≡ Some n → IsNodeFor design choices supplies x n) → slice_get order count ≡ Some y → IsNodeFor design choices supplies y made → later ≡ nodes ++ made ∷ []
    → MadeSoFar design choices supplies order (count + 1) later
more_made design choices supplies order count nodes later y made long each here is same =
    subst (MadeSoFar design choices supplies order (count + 1)) (sym same) (record { long = length-append nodes (made ∷ []) ∙ ap (λ n. n + 1) long; each = nodes_more design choices supplies order count nodes y made long each here is })
