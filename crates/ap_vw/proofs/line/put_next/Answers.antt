use Rattle.std.proofs.Common.{◌≡◌, ℕ, List, ◌++◌, refl, ap, ◌∙◌, append_assoc}
use Rattle.std.specs.Prelude.{codes}
use Rattle.ap_net.specs.declared.net.ModuleNet.{ModuleNet}
use Rattle.ap_net.specs.declared.net.Next.{Next}
use Rattle.ap_net.specs.Modules.{nets_of}
use Rattle.ap_net.specs.Text.{always_line, clocked_text}
use Rattle.ap_vw.specs.NetLines.{edge_text, reset_text}
use Rattle.ap_vw.proofs.line.put_next.Goals as goal

-- the parts of the line of a register's driver
abbrev parts : List ModuleNet → Next → List ℕ
parts nets x = codes "  always @(posedge clk) if (rst) " ++ reset_text nets x ++ codes " else " ++ edge_text nets x ++ codes "\n"

parts_are : (nets : List ModuleNet) (x : Next) → parts nets x ≡ always_line nets x
unfolding always_line clocked_text
parts_are nets x = refl

grouped : (o a r b e n : List ℕ) → ((((o ++ a) ++ r) ++ b) ++ e) ++ n ≡ o ++ (a ++ r ++ b ++ e ++ n)
grouped o a r b e n = simp append_assoc

joined : (o a r b e n x1 x2 x3 x4 x5 : List ℕ) → x1 ≡ o ++ a → x2 ≡ x1 ++ r → x3 ≡ x2 ++ b → x4 ≡ x3 ++ e → x5 ≡ x4 ++ n → x5 ≡ o ++ (a ++ r ++ b ++ e ++ n)
joined o a r b e n x1 x2 x3 x4 x5 e1 e2 e3 e4 e5 = e5 ∙ ap (λ t. t ++ n) (e4 ∙ ap (λ t. t ++ e) (e3 ∙ ap (λ t. t ++ b) (e2 ∙ ap (λ t. t ++ r) e1))) ∙ grouped o a r b e n

pub returns-clause-ok : goal.returns-clause-ok
returns-clause-ok c =
    joined c.args.out.now.items (codes "  always @(posedge clk) if (rst) ") (reset_text (nets_of c.args.whole.now) c.args.next) (codes " else ") (edge_text (nets_of c.args.whole.now) c.args.next) (codes "\n") _ _ _ _ _
    c.in_ok-put.ensures.ok c.in_ok-put_reset.ensures.ok c.in_ok-put-2.ensures.ok c.in_ok-put_edge.ensures.ok c.in_ok-put-3.ensures.ok
    ∙ ap (λ t. c.args.out.now.items ++ t) (parts_are (nets_of c.args.whole.now) c.args.next)
