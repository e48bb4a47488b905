use Rattle.std.proofs.Common.{take, []}
use Rattle.ap_net.specs.Making.{Makes}
use Rattle.ap_stage.specs.Courses.{AddsOffers, courses_numbers, users_of}
use Rattle.ap_stage.proofs.serve.offers_of.Given as goal

abbrev pub invariant-loop-course : goal.invariant-loop-course
invariant-loop-course l = record {
  adds : AddsOffers (courses_numbers l.ground l.courses) l.fn.out l.out l.ground l.part l.width (users_of l.port (take l.course-index l.courses)) [] l.offers;
  makes : Makes l.fn.out l.out;
}
