-- A forest has one area: where it stands, the header, every used slot and every free one are settled.
use Rattle.std.specs.Prelude.{ℕ, zero, suc, ◌+◌, ◌*◌, ◌/◌, ◌%◌, ◌≤◌, ◌≡◌, ◌⊎◌}
use Rattle.std.proofs.Common.{sym, ap, ◌∙◌, inl, inr, ext_get_or, arith}
use mathlib.Core.List.Memᴰ
use mathlib.Core.List.{List, Memᴰ}
use Rattle.base.specs.Bytes.{byte_at}
use Rattle.grammar.specs.Forest.{Forest}
use Rattle.trees.specs.Area.{slot_size, slot_at, slots, Linked, Area}
use Rattle.trees.specs.Members.{member}
use Rattle.trees.specs.Slots.{slot_byte}

linked_one : {b b' : List ℕ} {o : ℕ} {f : Forest} (x : ℕ) → Linked b o f → Linked b' o f → Memᴰ x (slots f) → slot_at b x ≡ slot_at b' x
linked_one x Linked.nil _ i = elim i [ ]
linked_one x (Linked.leaf e _ l) (Linked.leaf e' _ l') (Memᴰ.head q) = rw q (e ∙ sym e')
linked_one x (Linked.leaf e _ l) (Linked.leaf e' _ l') (Memᴰ.tail i) = linked_one x l l' i
linked_one x (Linked.node e c l) (Linked.node e' c' l') (Memᴰ.head q) = rw q (e ∙ sym e')
linked_one {b} {b'} x (Linked.node {k = k} {r = r} e c l) (Linked.node e' c' l') (Memᴰ.tail i) =
    part (λ j. linked_one x c c' j) (λ j. linked_one x l l' j) (Memᴰ.append_cases (slots k) i)
  where
    part : (Memᴰ x (slots k) → slot_at b x ≡ slot_at b' x) → (Memᴰ x (slots r) → slot_at b x ≡ slot_at b' x) → Memᴰ x (slots k) ⊎ Memᴰ x (slots r) → slot_at b x ≡ slot_at b' x
    part u v (inl j) = u j
    part u v (inr j) = v j

pub area_one : (S : ℕ) (f : Forest) (b b' : List ℕ) → Area S f b → Area S f b' → b ≡ b'
area_one S f b b' a a' =
    ext_get_or 0 b b' (a.long ∙ sym a'.long)
    (λ j l. let q : j ≡ slot_size * (j / slot_size) + j % slot_size = omega arith in
    let e = slot_one (j / slot_size) (omega (arith, a.long)) in
    ap (byte_at b) q ∙ sym (slot_byte b (j / slot_size) (j % slot_size) (omega arith)) ∙ ap (λ (c : List ℕ). byte_at c (j % slot_size)) e
    ∙ slot_byte b' (j / slot_size) (j % slot_size) (omega arith) ∙ ap (byte_at b') (sym q))
  where
    used : (x : ℕ) → 1 ≤ x → x ≤ S → Memᴰ x (slots f) ⊎ (Memᴰ x (slots f) → ⊥) → slot_at b x ≡ slot_at b' x
    used x l m (inl i) = linked_one x a.linked a'.linked i
    used x l m (inr n) = a.free x l m n ∙ sym (a'.free x l m n)

    slot_one : (x : ℕ) → x ≤ S → slot_at b x ≡ slot_at b' x
    slot_one zero m = a.header ∙ sym a'.header
    slot_one (suc x) m = used (suc x) (omega arith) m (member (suc x) (slots f))
