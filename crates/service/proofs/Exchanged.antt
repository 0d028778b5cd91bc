-- What a packet went through, where less is said of its exchange.
use Rattle.std.proofs.Common.{ℕ}
use Rattle.floor_core.specs.Work.{Work}
use Rattle.floor_core.specs.declared.parts.Got.{Got}
use Rattle.workers.specs.Carrying.{Circumstances, Growth, IsCarried, WasExchanged, WentOn}
use Rattle.workers.specs.Replies.{Sending}
use Rattle.workers.specs.declared.reply.Reply.{Reply}
use Rattle.workers.specs.declared.reply.Reply.TheVariants as reply

module _ (So To : Sending → Type 0) (weaker : (s : Sending) → So s → To s) where
  exchanged_so : (owner : ℕ) (before after : Work) (came : Got) → WasExchanged owner before came after So → WasExchanged owner before came after To
  exchanged_so owner before after came was = record {
    sending = was.sending;
    tenant = was.tenant;
    target = was.target;
    frame = was.frame;
    expiry = was.expiry;
    got = was.got;
    so = weaker was.sending was.so;
    left = was.left;
  }

  went_so : (under : Circumstances) (g : Growth) (before after : Work) (came : Got) → WentOn under g before came after So → WentOn under g before came after To
  went_so under g before after came went = record {
    waiting = went.waiting;
    forwarded = went.forwarded;
    kept = went.kept;
    sent = exchanged_so g.owner went.waiting after came went.sent;
  }

  pub carried_so : (under : Circumstances) (r : Reply) (g : Growth) (before after : Work) → IsCarried under r g before after So → IsCarried under r g before after To
  unfolding went_so
  carried_so under reply.Malformed g before after is = is
  carried_so under reply.Nameless g before after is = is
  carried_so under reply.Stranger g before after is = is
  carried_so under reply.Spent g before after is = is
  carried_so under reply.Memory g before after is = is
  carried_so under reply.NoRoom g before after is = is
  carried_so under reply.Unkept g before after is = is
  carried_so under reply.Decided g before after is = is
  carried_so under (reply.Settled got) g before after back = record {
    between = back.between;
    answered = back.answered;
    went = went_so under _ before back.answered got back.went;
    settled = back.settled;
  }
  carried_so under (reply.Untold got) g before after untold = record {
    between = untold.between;
    answered = untold.answered;
    went = went_so under _ before untold.answered got untold.went;
    left = untold.left;
    settled = untold.settled;
    cleared = untold.cleared;
  }
  carried_so under (reply.Lost got) g before after lost = record {
    between = lost.between;
    answered = lost.answered;
    went = went_so under _ before lost.answered got lost.went;
    missed = lost.missed;
    elsewhere = lost.elsewhere;
    left = lost.left;
  }
