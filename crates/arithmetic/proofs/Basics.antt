-- What proofs are written in: the words of the kit, under the names that the kit gives them, and the laws of tests, order and lists.
pub use Prim.Native.Nat.{ℕ, zero, suc, ◌≤◌, ◌<◌, ◌+◌, ◌*◌, ◌%◌, ◌/◌, ◌-◌, ◌^◌, max, zero-le}
pub use native.Mathlib.Omega.{arith}
pub use native.Mathlib.Nat.{zero-add, suc-add, mul-zero, mul-suc, div-add-mod, mul-add-div, add_assoc, div-le_of_le-mul, add-zero, add-suc, mul-le-mul}
pub use native.Mathlib.Nat.{mul-le-mul_right, le_trans, add_comm, le_refl, mul-le-mul_left, pow-suc, pow-zero, mod-eq_of_lt, le_of_eq, add-sub_cancel_left}
pub use native.Mathlib.Nat.{le_of_lt, lt_of_mul-lt-mul_right, div-add-mod', le-add_right, mul-div-le, mul-div_cancel_left, mul-mod_right}
pub use native.Mathlib.Numerals.{add-one, sub-one}
pub use mathlib.Core.Path.{◌≡◌, refl, sym, ap, ◌∙◌, fun_ext, subst, ap₂}
pub use mathlib.Core.Logic.{⊎_elim, ◌⊎◌, inl, inr}
pub use mathlib.Core.Bool.{true, false, not, ◌||◌, cond, Bool, ◌&&◌}
pub use mathlib.Core.List.{List, [], ◌∷◌, ◌++◌, map, append-nil, append_assoc, map-map, map-id}
pub use lib.Dec.{leb, eqb, ltb, eqb-suc-suc, leb-zero, T, leb→le, lit<}
pub use lib.ListN.{length, get_or, length-append, get_or-append, take, drop, length-drop, length-map, get_or-map, take-append-drop, drop_of_length-le, set}
pub use lib.ListN.{length-set, get_or-eq_default, length-take, replicate, length-replicate, get_or-replicate, replicate-append-replicate}
pub use lib.Seq.{get_or-append-add, take-append-le, drop-append-le, drop-drop, get_or-take, get_or-drop, take-suc, length-take-le, drop_at, take_all, take-length}
pub use lib.Seq.{drop-cons, drop-length, get_or-set_same, take-suc-set, take-take, take_at, take-nil, take-append-add, take-append_seam, drop-append_seam, ext_get_or}
pub use lib.Seq.{get_or-set_other, take-set-le, take-set-lt, drop-set-lt, drop-set-add, set-set, set_split, split_at, set_at, get_or_at}
pub use lib.IntN.{ℤ, pos, neg_ℤ, ◌*ℤ◌, ◌+ℤ◌, ◌-ℤ◌, negsuc, nat_abs}
pub use lib.Signed.{lt_z, le_z, mag, non_neg}
pub use borrow.Author.Tests.{eqb-true, eqb-false, not-false, leb-false, ne_eqb, leb-true, lt-leb, ltb-false, le-leb, eq-eqb, le-ltb, ltb-true, lt-ltb, not-true}
pub use borrow.Author.Rules.{rules}
pub use Rattle.arithmetic.proofs.Booleans.{or-false, or-true, by-test, never, and-true, and_left, and_right, and-never, or_same, not-or, or_right}
pub use Rattle.arithmetic.proofs.Booleans.{or-follows, and-follows, cond-follows, or_swap, or_assoc, same_test}
pub use Rattle.arithmetic.proofs.Order.{lt-or-ge, not-ltb, ltb-same, in-range, twice, leb-same}
pub use Rattle.arithmetic.proofs.Lists.{any_append, any_snoc, map-append, take-map, any_last, any_left, those-append, length-those, any-update, any_part, any_none, any_same, any-or, any-implies}
pub use Rattle.arithmetic.proofs.Lists.{any-more, any-without, those-without, those-with, any-those, some-none, none-some, some_same}
