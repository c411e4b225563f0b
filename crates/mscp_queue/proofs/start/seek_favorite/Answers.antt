use Rattle.mscp_queue.proofs.Favored.{all_on_drive, favored, favored_more}
use Rattle.mscp_queue.proofs.start.seek_favorite.Goals as goal

pub favorite-start-requires-clause-to : goal.favorite-start-requires-clause-to
favorite-start-requires-clause-to c = all_on_drive c.requires.waiting c.requires.units
    c.args.at c.index-drives-at.result c.requires.drive c.index-drives-at.is

pub returns-clause-best : goal.returns-clause-best
returns-clause-best c = favored c.requires.waiting c.requires.units
    c.args.at c.index-drives-at.result c.requires.drive c.index-drives-at.is c.favorite-start.ensures

pub returns-clause-favored : goal.returns-clause-favored
returns-clause-favored c =
    favored_more c.args.at c.favorite-start.result c.requires.favored (returns-clause-best c) c.learn.ensures
