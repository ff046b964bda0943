use Rattle.std.proofs.Common.{◌≡◌, ℕ, ◌^◌, ◌<◌, ◌≤◌, List, length, Some, None, Option, Ok, Err, Result, IfOk, Bor, sym, subst, rules}
use Rattle.std.specs.Iterator.{AlwaysYields, YieldsFirstRef}
use Rattle.settings.specs.declared.keys.KeysOf.{KeysOf}
use Rattle.settings.proofs.Places.{walked}
use Rattle.std.specs.List.{AllByRecursion}
use Rattle.std.specs.Result.{MatchResult, IsErrAnd}
use Rattle.settings.specs.First.{Least}
use Rattle.settings.specs.Layout.{Encodes, Distinct, Repeats, encode}
use Rattle.settings.specs.Written.{keys_of, value_bits_of, given_by, TooLong, Restored, ValuesBack, ReadsBack}
use Rattle.settings.specs.declared.writing.Setting.{Setting}
use Rattle.settings.proofs.Format.{encodes_valid}
use Rattle.settings.proofs.Emit.{valid_settings, values_back, reads_back}
use Rattle.settings.proofs.writing.write.Goals as goal

-- what holds of a value holds of it where the error is another
carried : {T E D : Type 0} (P : T → Type 0) (R : E → D → Type 0) (r : Result T E) (q : Result T D) → MatchResult r (λ x. q ≡ Ok x) (λ e. IsErrAnd q (R e)) → IfOk r P → IfOk q P
carried P R (Ok x) q e p = subst (λ y. IfOk y P) (sym e) p
carried P R (Err e) (Ok x) h p = absurd h
carried P R (Err e) (Err d) h p = tt

-- the keys that were gone through are those of the settings
repeated : (ss : Bor (List Setting)) (r : Option ℕ) → ((ks : List (List ℕ)) → AlwaysYields (YieldsFirstRef (λ (k : KeysOf). keys_of k.settings.now)) (λ k. k.now) (record { settings = ss }) ks → Least (Repeats ks) r) → Least (Repeats (keys_of ss.now)) r
repeated ss r h = h (keys_of ss.now) (walked (λ (k : KeysOf). keys_of k.settings.now) (record { settings = ss }))

-- what was encoded is read back, value for value
module _ {T E : Type 0} (items : T → List ℕ) (ss : List Setting) (few : length ss ≤ 4096) (short : Least (TooLong (keys_of ss)) None) (distinct : Distinct (keys_of ss)) where
  restored : (r : Result T E) → IfOk r (λ v. AllByRecursion Restored ss) → IfOk r (λ v. ValuesBack ss)
  restored (Ok v) h = values_back ss h
  restored (Err e) h = tt

  encoding : (r : Result T E) → IfOk r (λ v. items v ≡ encode (given_by ss)) → IfOk r (λ v. AllByRecursion (λ b. b < 2 ^ 64) (value_bits_of ss)) → IfOk r (λ v. Encodes (items v) (given_by ss))
  encoding (Ok v) e h = subst (λ bs. Encodes bs (given_by ss)) (sym e) (encodes_valid (given_by ss) (valid_settings ss few short h))
  encoding (Err e) h k = tt

  reading : (r : Result T E) → IfOk r (λ v. Encodes (items v) (given_by ss)) → IfOk r (λ v. ReadsBack (items v) (given_by ss))
  reading (Ok v) e = reads_back (items v) (given_by ss) e distinct
  reading (Err e) h = tt

pub returns-clause-encodes : goal.returns-clause-encodes
returns-clause-encodes c =
    carried _ _ c.encoded.result c.map_err.result c.map_err.ensures.cases
    (encoding (λ v. v.items) c.args.settings.now c.if-settings-gt-MOST_SETTINGS.false c.in_default.ensures (repeated c.args.settings None c.in_default-first_repeated.ensures) c.encoded.result c.encoded.ensures.bytes c.encoded.ensures.doubles)

pub returns-clause-values_back : goal.returns-clause-values_back
returns-clause-values_back c =
    carried _ _ c.encoded.result c.map_err.result c.map_err.ensures.cases
    (restored (λ v. v.items) c.args.settings.now c.if-settings-gt-MOST_SETTINGS.false c.in_default.ensures (repeated c.args.settings None c.in_default-first_repeated.ensures) c.encoded.result c.encoded.ensures.restored)

pub returns-clause-reads_back : goal.returns-clause-reads_back
returns-clause-reads_back c =
    carried _ _ c.encoded.result c.map_err.result c.map_err.ensures.cases
    (reading (λ v. v.items) c.args.settings.now c.if-settings-gt-MOST_SETTINGS.false c.in_default.ensures (repeated c.args.settings None c.in_default-first_repeated.ensures) c.encoded.result
    (encoding (λ v. v.items) c.args.settings.now c.if-settings-gt-MOST_SETTINGS.false c.in_default.ensures (repeated c.args.settings None c.in_default-first_repeated.ensures) c.encoded.result c.encoded.ensures.bytes c.encoded.ensures.doubles))

pub returns-in-Some-first_repeated-clause-refuses : goal.returns-in-Some-first_repeated-clause-refuses
returns-in-Some-first_repeated-clause-refuses c =
    let d = repeated c.args.settings (Some c.in-Some-first_repeated.key) c.in-Some-first_repeated.ensures in search rules

pub returns-clause-distinct : goal.returns-clause-distinct
returns-clause-distinct c =
    let d = repeated c.args.settings None c.in_default-first_repeated.ensures in search rules

pub returns-clause-refuses : goal.returns-clause-refuses
returns-clause-refuses c =
    let d = repeated c.args.settings None c.in_default-first_repeated.ensures in search rules
