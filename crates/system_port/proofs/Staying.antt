-- Calls that change nothing follow one another.
use Rattle.host_port.specs.Host.{Told}
use Rattle.host_port.proofs.Course.{course_on, course_still, still_disk, still_said, still_input, keeps_disk_on, keeps_said_on, keeps_input_on}
use Rattle.system_port.specs.Stays.{Stays}

-- no call at all
pub stays_still : (a : Told) → Stays a a
stays_still a = record { course = course_still a; disk = still_disk a; said = still_said a; input = still_input a }

-- two of them one after the other
pub stays_on : (a b c : Told) → Stays a b → Stays b c → Stays a c
stays_on a b c ab bc = record {
  course = course_on a b c ab.course bc.course;
  disk = keeps_disk_on a b c ab.course bc.course ab.disk bc.disk;
  said = keeps_said_on a b c ab.course bc.course ab.said bc.said;
  input = keeps_input_on a b c ab.input bc.input;
}
