use Rattle.std.proofs.Common.{Some, refl, sym, ap, subst}
use Rattle.ap_net.proofs.Laws.{meant}
use Rattle.ap_stage.specs.Sources.{HasRoom, NamesNets, source_numbers}
use Rattle.ap_stage.proofs.Lined.{input_line, input_wiring, not_wired, reg_line, reg_wiring}
use Rattle.ap_stage.proofs.Wired.{wiring_fewer}
use Rattle.std.proofs.lemmas.Bool.{false≢true}
use Rattle.ap_stage.proofs.line.line_net.Goals as goal

pub reg_net-requires : goal.reg_net-requires
reg_net-requires c = subst (NamesNets c.args.ground.now c.args.scope.now) c.in-ReadReg.is c.requires.names

pub input_net-requires : goal.input_net-requires
input_net-requires c = subst (NamesNets c.args.ground.now c.args.scope.now) c.in-ReadIn.is c.requires.names

pub returns-in-ReadReg-clause-net : goal.returns-in-ReadReg-clause-net
returns-in-ReadReg-clause-net c = rw c.in-ReadReg.is (reg_line _ c.args.ground.now c.args.scope.now c.args.row.now c.in-ReadReg.reg c.reg_net.result c.requires.ground.regs c.reg_net.ensures)

pub returns-in-ReadReg-clause-wiring : goal.returns-in-ReadReg-clause-wiring
returns-in-ReadReg-clause-wiring c = reg_wiring _ c.args.ground.now c.args.row.now c.in-ReadReg.reg c.reg_net.result c.reg_net.ensures

pub returns-in-ReadReg-clause-found : goal.returns-in-ReadReg-clause-found
returns-in-ReadReg-clause-found c = rw c.in-ReadReg.is (λ h. refl, λ h. tt)

pub returns-in-ReadIn-clause-net : goal.returns-in-ReadIn-clause-net
returns-in-ReadIn-clause-net c = rw c.in-ReadIn.is (input_line _ c.args.ground.now c.args.scope.now c.args.row.now c.in-ReadIn.input c.input_net.result c.requires.ground.inputs c.input_net.ensures)

pub returns-in-ReadIn-clause-wiring : goal.returns-in-ReadIn-clause-wiring
returns-in-ReadIn-clause-wiring c = input_wiring _ c.args.ground.now c.args.row.now c.in-ReadIn.input c.input_net.result c.input_net.ensures

pub returns-in-ReadIn-clause-found : goal.returns-in-ReadIn-clause-found
returns-in-ReadIn-clause-found c = rw c.in-ReadIn.is (λ h. refl, λ h. tt)

pub constant-requires-clause-low : goal.constant-requires-clause-low
constant-requires-clause-low c = (subst (HasRoom c.args.ground.now c.args.scope.now) c.in-Const.is c.requires.room).0

pub constant-requires-clause-high : goal.constant-requires-clause-high
constant-requires-clause-high c = (subst (HasRoom c.args.ground.now c.args.scope.now) c.in-Const.is c.requires.room).1

pub constant-requires-clause-fits : goal.constant-requires-clause-fits
constant-requires-clause-fits c = (subst (HasRoom c.args.ground.now c.args.scope.now) c.in-Const.is c.requires.room).2

pub returns-in_ok-net-in-Const-clause-net : goal.returns-in_ok-net-in-Const-clause-net
returns-in_ok-net-in-Const-clause-net c = rw c.in-Const.is (meant (λ r s h. ap Some (sym h)) c.in_ok-net-in-Const.ensures.carries)

pub returns-in_ok-net-in-Const-clause-wiring : goal.returns-in_ok-net-in-Const-clause-wiring
returns-in_ok-net-in-Const-clause-wiring c = wiring_fewer (source_numbers c.args.ground.now c.args.row.now) _ _ _ _ c.in_ok-net-in-Const.ensures.wiring tt

pub returns-in_ok-net-in-Const-clause-found : goal.returns-in_ok-net-in-Const-clause-found
returns-in_ok-net-in-Const-clause-found c = rw c.in-Const.is (λ h. refl, λ h. tt)

pub zext_net-requires-clause-a : goal.zext_net-requires-clause-a
zext_net-requires-clause-a c = (subst (NamesNets c.args.ground.now c.args.scope.now) c.in-Zext.is c.requires.names).0

pub zext_net-requires-clause-room : goal.zext_net-requires-clause-room
zext_net-requires-clause-room c = subst (HasRoom c.args.ground.now c.args.scope.now) c.in-Zext.is c.requires.room

pub returns-in_ok-net-in-Zext-clause-net : goal.returns-in_ok-net-in-Zext-clause-net
returns-in_ok-net-in-Zext-clause-net c = rw c.in-Zext.is c.in_ok-net-in-Zext.ensures.net

pub returns-in_ok-net-in-Zext-clause-found : goal.returns-in_ok-net-in-Zext-clause-found
returns-in_ok-net-in-Zext-clause-found c = rw c.in-Zext.is c.in_ok-net-in-Zext.ensures.found

pub sext_net-requires-clause-a : goal.sext_net-requires-clause-a
sext_net-requires-clause-a c = (subst (NamesNets c.args.ground.now c.args.scope.now) c.in-Sext.is c.requires.names).0

pub sext_net-requires-clause-room : goal.sext_net-requires-clause-room
sext_net-requires-clause-room c = subst (HasRoom c.args.ground.now c.args.scope.now) c.in-Sext.is c.requires.room

pub returns-in_ok-net-in-Sext-clause-net : goal.returns-in_ok-net-in-Sext-clause-net
returns-in_ok-net-in-Sext-clause-net c = rw c.in-Sext.is c.in_ok-net-in-Sext.ensures.net

pub returns-in_ok-net-in-Sext-clause-found : goal.returns-in_ok-net-in-Sext-clause-found
returns-in_ok-net-in-Sext-clause-found c = rw c.in-Sext.is c.in_ok-net-in-Sext.ensures.found

pub slice_net-requires-clause-a : goal.slice_net-requires-clause-a
slice_net-requires-clause-a c = (subst (NamesNets c.args.ground.now c.args.scope.now) c.in-Slice.is c.requires.names).0

pub slice_net-requires-clause-room : goal.slice_net-requires-clause-room
slice_net-requires-clause-room c = subst (HasRoom c.args.ground.now c.args.scope.now) c.in-Slice.is c.requires.room

pub returns-in_ok-net-in-Slice-clause-net : goal.returns-in_ok-net-in-Slice-clause-net
returns-in_ok-net-in-Slice-clause-net c = rw c.in-Slice.is c.in_ok-net-in-Slice.ensures.net

pub returns-in_ok-net-in-Slice-clause-found : goal.returns-in_ok-net-in-Slice-clause-found
returns-in_ok-net-in-Slice-clause-found c = rw c.in-Slice.is c.in_ok-net-in-Slice.ensures.found

pub cat_net-requires-clause-a : goal.cat_net-requires-clause-a
cat_net-requires-clause-a c = (subst (NamesNets c.args.ground.now c.args.scope.now) c.in-Cat.is c.requires.names).0

pub cat_net-requires-clause-b : goal.cat_net-requires-clause-b
cat_net-requires-clause-b c = (subst (NamesNets c.args.ground.now c.args.scope.now) c.in-Cat.is c.requires.names).1.0

pub cat_net-requires-clause-room : goal.cat_net-requires-clause-room
cat_net-requires-clause-room c = subst (HasRoom c.args.ground.now c.args.scope.now) c.in-Cat.is c.requires.room

pub returns-in_ok-net-in-Cat-clause-net : goal.returns-in_ok-net-in-Cat-clause-net
returns-in_ok-net-in-Cat-clause-net c = rw c.in-Cat.is c.in_ok-net-in-Cat.ensures.net

pub returns-in_ok-net-in-Cat-clause-found : goal.returns-in_ok-net-in-Cat-clause-found
returns-in_ok-net-in-Cat-clause-found c = rw c.in-Cat.is c.in_ok-net-in-Cat.ensures.found

pub returns-in_default-clause-found : goal.returns-in_default-clause-found
returns-in_default-clause-found c = (
  λ h. absurd (not_wired c.args.row.now c.args.line c.in_default.not-ReadReg c.in_default.not-ReadIn c.in_default.not-Const c.in_default.not-Zext c.in_default.not-Sext c.in_default.not-Slice c.in_default.not-Cat h),
  λ h. absurd (false≢true h),
)
