use Rattle.operator_lowering.proofs.AllCourses.{all_courses}
use Rattle.operator_lowering.proofs.laws.sites_are_courses.Goals as goal

pub returns : goal.returns
returns c = all_courses
