-- A job by its meaning.
--   hall_in   the hall of a job, as the theory has it
--   state_of  the state of a job
use Rattle.std.specs.Prelude.{vec_items}
use Rattle.walks.specs.Hall as walks
use Rattle.model.specs.State.{JobState}
use Rattle.job.specs.declared.hall.Hall.{Hall}
use Rattle.job.specs.declared.state.Job.{Job}
use Rattle.job.specs.Legs.{hall_of}

abbrev pub hall_in : Hall → walks.Hall
hall_in h = hall_of h.points h.bound (vec_items h.legs)

abbrev pub state_of : Job → JobState
state_of j = record {
  phase = j.phase;
  hall = hall_in j.hall;
  table = vec_items j.table.pairs;
  opening = j.opening;
  floor = j.floor;
  tried = j.tried;
}
