-- `requests::encoding::has_room` meets its contract.
use Rattle.requests.proofs.Building.{room-long, room-beyond, room-rest}
use Rattle.requests.proofs.encoding.has_room.Goals as goal

pub returns-then-n-gt-CONTENTS : goal.returns-then-n-gt-CONTENTS
returns-then-n-gt-CONTENTS c =
    room-long c.args.len c.args.at c.args.n c.if-n-gt-CONTENTS.true

pub returns-then-len-at : goal.returns-then-len-at
returns-then-len-at c =
    room-beyond c.args.len c.args.at c.args.n c.if-n-gt-CONTENTS.false c.if-len-at.true

pub returns : goal.returns
returns c =
    room-rest c.args.len c.args.at c.args.n c.if-n-gt-CONTENTS.false c.if-len-at.false
