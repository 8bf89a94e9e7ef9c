-- What a plan comes to with a host, it comes to with what that host simulates.
use Rattle.std.proofs.Common.{ℕ, Result}
use Rattle.py_host.specs.Calls.{answers, refuses}
use Rattle.py_host.specs.Meaning.{Meaning}
use Rattle.py_host.specs.Lent.{Simulates}
use Rattle.py_meaning.specs.States.{Out, Fault}
use Rattle.py_meaning.specs.Plans.{Plan}
use Rattle.py_meaning.specs.Evaluates.{Follows, done, stopped, then, then_stopped, too_deep, called, called_stopped, named, printed, print_refused, asked, refused}

pub simulated : {H S : Type 0} {see : H → S} {big : Meaning H} {m : Meaning S} {c : ℕ} {p : Plan} {h h2 : H} {r : Result Out Fault} → Simulates see big m → Follows big c p h r h2 → Follows m c p (see h) r (see h2)
simulated i done = done
simulated i (stopped o) = stopped o
simulated {see = see} i (then o h1 a b) = then o (see h1) (simulated i a) (simulated i b)
simulated i (then_stopped e a) = then_stopped e (simulated i a)
simulated i too_deep = too_deep
simulated {see = see} i (called o h1 a b) = called o (see h1) (simulated i a) (simulated i b)
simulated i (called_stopped e a) = called_stopped e (simulated i a)
simulated {see = see} {h = h} i (named {n = n} v h1 a b) = named v (see h1) (i.names h h1 n v a) (simulated i b)
simulated {see = see} {h = h} i (printed {text = text} h1 a b) = printed (see h1) (i.prints h h1 text (answers tt) a) (simulated i b)
simulated {h = h} {h2 = h2} i (print_refused {text = text} a) = print_refused (i.prints h h2 text refuses a)
simulated {see = see} {h = h} i (asked {q = q} {s = s} v h1 objects a b) = asked v (see h1) objects (i.replies q h h1 s.objects objects (answers v) a) (simulated i b)
simulated {h = h} {h2 = h2} i (refused {q = q} {s = s} objects a) = refused objects (i.replies q h h2 s.objects objects refuses a)
