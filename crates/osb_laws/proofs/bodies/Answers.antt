use Rattle.osb_laws.proofs.BodyLemmas.{bodies_are_objects, error_is}
use Rattle.osb_laws.proofs.CatalogLemmas.{catalogs_are_objects}
use Rattle.osb_laws.proofs.bodies.Goals as goal

pub returns-clause-objects : goal.returns-clause-objects
returns-clause-objects c = bodies_are_objects

pub returns-clause-errors : goal.returns-clause-errors
returns-clause-errors c = error_is

pub returns-clause-catalogs : goal.returns-clause-catalogs
returns-clause-catalogs c = catalogs_are_objects
