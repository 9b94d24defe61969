-- The worked flights, as computed. Assumes nothing.
use Rattle.plain.proofs.flights_fly.Goals as goal
use Rattle.plain.proofs.Flights.{flights}

pub returns : goal.returns
returns c = flights
