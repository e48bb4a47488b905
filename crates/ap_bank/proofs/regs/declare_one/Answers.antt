use Rattle.std.proofs.Common.{◌≡◌, ◌∷◌, ◌∙◌, ap, refl}
use Rattle.ap_net.proofs.Laws.{IsNotNumbered-other}
use Rattle.ap_signals.specs.NetRuns.{reg_name}
use Rattle.ap_bank.proofs.Declared.{IsNetName-storage, reg_fits}
use Rattle.ap_bank.proofs.regs.declare_one.Goals as goal

pub register-requires : goal.register-requires
register-requires c =
    let same : c.as_bytes.result.now ≡ reg_name c.args.reg.now = c.as_bytes.ensures.value ∙ c.in_ok-name.ensures.ok ∙ ap (λ name. 114 ∷ 95 ∷ name) c.as_str.ensures.same in
    let fits = reg_fits c.args.reg.now c.requires.within in
    rw same (record { is_name = (IsNetName-storage c.args.reg.now.name c.as_str.ensures.is_name).0; name = c.requires.new; low = fits.low; high = fits.high; reset = fits.reset })

pub returns : goal.returns
returns c =
    let same : c.as_bytes.result.now ≡ reg_name c.args.reg.now = c.as_bytes.ensures.value ∙ c.in_ok-name.ensures.ok ∙ ap (λ name. 114 ∷ 95 ∷ name) c.as_str.ensures.same in
    let y = rw same at c.in_ok-register.ensures in
    record { ok = y.ok; wire = y.wire; fresh = y.fresh (IsNotNumbered-other (reg_name c.args.reg.now) refl) c.requires.fresh; late = y.stay }
