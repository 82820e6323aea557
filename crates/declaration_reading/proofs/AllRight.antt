-- Declarations of objects are read rightly, whatever the limit.
use Rattle.declaration_reading.specs.Laws.{ObjectsAreRead}
use Rattle.declaration_reading.proofs.ObjectsRight.{objects_right}

pub objects_are_read : ObjectsAreRead
objects_are_read = objects_right
