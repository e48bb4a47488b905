use Rattle.std.proofs.Common.{◌≢◌, ℕ, List, ◌++◌, ◌∙◌, sym}
use Rattle.std.specs.Prelude.{codes}
use Rattle.std.specs.String.{string_bytes}
use Rattle.ap_bits.specs.Names.{IsName}
use Rattle.ap_flat.proofs.Asking.{ask_code, ask_memory, no_ask, same_name, other_name}
use Rattle.ap_flat.proofs.driver.asking_name.Goals as goal

pub returns-then-eq-clause-some : goal.returns-then-eq-clause-some
returns-then-eq-clause-some c = ask_code c.args.name.now (string_bytes c.in_ok-asking.asking) (same_name _ _ _ c.eq.ensures c.if-eq.true) c.in_ok-asking.ensures.ok

pub returns-in_default-clause-none : goal.returns-in_default-clause-none
returns-in_default-clause-none c =
    let none : (middle : List ℕ) → IsName middle → c.as_bytes.result.now ≢ codes "m_" ++ middle ++ codes "_rd" = rw c.in_default.is at c.in_ok-memory.ensures.none in
    no_ask c.args.name.now (other_name _ _ _ c.eq.ensures c.if-eq.false) (λ middle is e. none middle is (c.as_bytes.ensures.value ∙ e))

pub returns-clause-some : goal.returns-clause-some
returns-clause-some c =
    let some = rw c.in-Some.is at c.in_ok-memory.ensures.some in
    ask_memory c.args.name.now (string_bytes c.in_ok-asking-2.asking) c.in-Some.memory some.0 (sym c.as_bytes.ensures.value ∙ some.1)
    (rw c.as_str-memory.ensures.same at c.in_ok-asking-2.ensures.ok)
