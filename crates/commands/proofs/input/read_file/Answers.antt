use Rattle.commands.proofs.Inputs.{read_first}
use Rattle.commands.proofs.input.read_file.Goals as goal

pub returns : goal.returns
returns g c =
    read_first g.R.Read.remaining c.args.source c.take.result.inner 65536 c.take.result.limit c.new-input.result.items _
    c.new-input.ensures.items c.take.ensures.limit c.take.ensures.inner c.in_ok-read_to_end.ensures.bytes
