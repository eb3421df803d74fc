use lib.ListN.{get_or}
use Rattle.alias.proofs.names.spells.Given as goal

abbrev pub ghost-matches : goal.ghost-matches
ghost-matches a i = get_or a.other.0.now i 0
