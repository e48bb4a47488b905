-- What the machine of overlapped execution holds, and how it starts.
use Rattle.std.specs.Prelude.{◌-◌, [], map, replicate, None}
use Rattle.ap_desc.specs.declared.design.Design.{Design}
use Rattle.ap_desc.specs.declared.design.Reg.{Reg}
use Rattle.ap_desc.specs.declared.design.File.{File}
use Rattle.ap_image.specs.declared.image.Image.{Image}
use Rattle.ap_model.specs.declared.state.State.{State}
use Rattle.ap_model.specs.declared.storage.Storages.{Storages}

-- registers at their reset values, cells 0, memories as the image has them
unfoldable pub start_storages : Design → Image → Storages
start_storages design image = record {
  regs = map (λ (r : Reg). r.reset) design.regs;
  files = map (λ (f : File). replicate f.cells 0) design.files;
  mems = image.mems;
}

-- the pc is 0, every stage is empty, and nothing has happened
unfoldable pub start : Design → Image → State
start design image = record {
  pc = 0;
  storages = start_storages design image;
  flights = replicate (design.stages - 1) None;
  next = 0;
  log = [];
  sampled = [];
  passes = [];
}
