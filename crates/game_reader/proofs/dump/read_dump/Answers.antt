use Rattle.dump_reader.specs.Draft.{draft_seen}
use Rattle.game_reader.proofs.Codes.{game_answered, settled_answered, settled_sound}
use Rattle.game_reader.proofs.dump.read_dump.Goals as goal

pub returns-clause-game : goal.returns-clause-game
returns-clause-game c =
    settled_answered c.args.bytes.now c.resolve.result c.settled.result (game_answered c.args.bytes.now (draft_seen c.in_ok-draft.draft) c.in_ok-draft.ensures.draft c.resolve.result c.resolve.ensures.gives) c.settled.ensures.same

pub returns-clause-sound : goal.returns-clause-sound
returns-clause-sound c = settled_sound c.resolve.result c.settled.result c.resolve.ensures.sound c.settled.ensures.same
