use Rattle.std.proofs.Common.{◌≡◌, Some, None, sym, ◌∙◌}
use Rattle.ap_read.specs.Texts.{texts}
use Rattle.ap_read.proofs.statement.statement.Goals as goal

pub returns-in-Ok : goal.returns-in-Ok
returns-in-Ok c = record { said = c.forms_are_exact.ensures.sound (texts c.args.tokens.now) c.in-Ok.statement c.in-Ok.ensures }

pub returns-in-Err-NoForm : goal.returns-in-Err-NoForm
returns-in-Err-NoForm c = record {
  said = λ m spells.
      let e : Some m ≡ None = sym (c.forms_are_exact.ensures.complete (texts c.args.tokens.now) m spells) ∙ c.in-Err-NoForm.ensures c.in-Err-NoForm.field-0-is in cc;
}
