use Rattle.std.proofs.Common.{◌≡◌, ℕ, List, [], ◌++◌, ap, ◌∙◌, append_assoc, append-nil}
use Rattle.std.specs.Prelude.{codes}
use Rattle.ap_vw.proofs.line.put_head.Goals as goal

grouped : (a k b n e : List ℕ) → a ++ (k ++ (b ++ (n ++ (e ++ [])))) ≡ a ++ k ++ b ++ n ++ e
grouped a k b n e = simp (append_assoc, append-nil)

pub returns-clause-ok : goal.returns-clause-ok
returns-clause-ok c = c.in_ok-put.ensures.ok ∙ ap (λ t. c.args.out.now.items ++ t) (grouped (codes "  ") c.args.kind.now (codes " ") c.args.name.now (codes " (.clk(clk), .rst(rst)"))
