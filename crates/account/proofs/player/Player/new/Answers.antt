use Rattle.account.proofs.Lawful.{lawful}
use Rattle.account.proofs.Listings.{lists_back}
use Rattle.account.proofs.Prefixes.{begins}
use Rattle.account.proofs.player.Player.new.Goals as goal

pub returns-clause-begins : goal.returns-clause-begins
returns-clause-begins c = begins c.args.input.now

pub returns-clause-lawful : goal.returns-clause-lawful
returns-clause-lawful c = lawful

pub returns-clause-listed : goal.returns-clause-listed
returns-clause-listed c = lists_back
