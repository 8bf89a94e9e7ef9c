-- What every host keeps to, a host that holds references keeps to as well.
use Rattle.std.proofs.Common.{◌≡◌, ◌∙◌, refl}
use Rattle.py_host.specs.Meaning.{Meaning, IsKept, IsDetermined}
use Rattle.py_host.specs.Lent.{lent, Simulates}

pub lent_kept : {H S N : Type 0} (see : H → S) (held : H → N) (m : Meaning S) → IsKept m → IsKept (lent see held m)
lent_kept see held m k = record {
  same = λ h. (refl, k.same (see h));
  joins = λ a b c p q. (q.0 ∙ p.0, k.joins (see a) (see b) (see c) p.1 q.1);
  later = λ a b p. k.later (see a) (see b) p.1;
  told = λ a b p t. k.told (see a) (see b) p.1 t;
  escaped_on = λ a b c x p. k.escaped_on (see a) (see b) (see c) x p.1;
  escaped_back = λ a b c p x. k.escaped_back (see a) (see b) (see c) p.1 x;
  names = λ h h2 name v p. (p.0, k.names (see h) (see h2) name v p.1);
  prints = λ h h2 text a p. ((p.0, (k.prints (see h) (see h2) text a p.1).0), (k.prints (see h) (see h2) text a p.1).1);
  replies = λ q h h2 o o2 a p. ((p.0, (k.replies q (see h) (see h2) o o2 a p.1).0), (k.replies q (see h) (see h2) o o2 a p.1).1);
  stands = λ q h h2 o o2 a p. k.stands q (see h) (see h2) o o2 a p.1;
}

pub lent_determined : {H S N : Type 0} (see : H → S) (held : H → N) (m : Meaning S) → IsDetermined m → IsDetermined (lent see held m)
lent_determined see held m d = record {
  names = λ h1 k1 h2 k2 name v w t1 t2 s p q. d.names (see h1) (see k1) (see h2) (see k2) name v w t1 t2 s p.1 q.1;
  prints = λ h1 k1 h2 k2 text a b t1 t2 s p q. d.prints (see h1) (see k1) (see h2) (see k2) text a b t1 t2 s p.1 q.1;
  replies = λ question h1 k1 h2 k2 o o1 o2 a b t1 t2 s p q. d.replies question (see h1) (see k1) (see h2) (see k2) o o1 o2 a b t1 t2 s p.1 q.1;
}

pub lent_simulates : {H S N : Type 0} (see : H → S) (held : H → N) (m : Meaning S) → Simulates see (lent see held m) m
lent_simulates see held m = record {
  names = λ h h2 name v p. p.1;
  prints = λ h h2 text a p. p.1;
  replies = λ q h h2 o o2 a p. p.1;
}
