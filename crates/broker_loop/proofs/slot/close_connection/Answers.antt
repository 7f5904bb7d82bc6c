use Rattle.std.proofs.Common.{refl}
use Rattle.giop_messages.specs.Heads.{head_of}
use Rattle.giop_messages.specs.declared.head.MessageKind.TheVariants.{CloseConnection}
use Rattle.broker_loop.proofs.slot.close_connection.Goals as goal

pub returns : goal.returns
returns c = record {
  head = head_of 0 0 CloseConnection;
  is = record { is = record { head_is = refl; whole = refl }; kind_is = refl; alone = refl };
}
