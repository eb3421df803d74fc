use Rattle.hexline.specs.Line.{standing_in}
use Rattle.alias.specs.Lookup.{called_of}
use Rattle.alias.proofs.names.shares.Given as goal

abbrev pub ghost-some_name : goal.ghost-some_name
ghost-some_name a xs = called_of (standing_in a.test.0.now) xs
