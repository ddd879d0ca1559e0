-- How a metric is written. (Prometheus' text form, 0.0.4)
use Rattle.std.specs.Prelude.{◌≡◌, ℕ, ◌+◌, ◌*◌, ◌/◌, ◌%◌, ◌==◌, if◌then◌else◌, List, Result, ◌++◌, ◌∷◌, [], OnOk, codes, decimal}
use Rattle.std.specs.List.{flat_map}
use Rattle.beam_page.specs.MetricNames.{kind_word, metric_help, metric_kind, metric_name}
use Rattle.beam_page.specs.declared.metric.Labels.{Labels}
use Rattle.beam_page.specs.declared.metric.Labels.TheVariants.{Absent, Number, One, Two}
use Rattle.beam_page.specs.declared.metric.Sample.{Sample}
use Rattle.beam_page.specs.declared.metric.SampleValue.{SampleValue}
use Rattle.beam_page.specs.declared.metric.SampleValue.TheVariants.{Count, Micros, Millis}
use Rattle.beam_page.specs.declared.metric_name.MetricName.{MetricName}

-- these bytes were appended, unless memory was lacking
abbrev pub Writes : {E : Type 0} → Result (Unit {0}) E → List ℕ → List ℕ → List ℕ → Type 0
Writes r old new bytes = OnOk r (new ≡ old ++ bytes)

-- what stands for a byte in a label's value
unfoldable pub escape_label : ℕ → List ℕ
escape_label x =
    if x == 92 then codes "\\\\" else (if x == 34 then codes "\\\"" else (if x == 10 then codes "\\n" else (x ∷ [])))

unfoldable pub label_text : List ℕ → List ℕ → List ℕ
label_text name value = name ++ codes "=\"" ++ flat_map escape_label value ++ codes "\""

unfoldable pub number_label_text : List ℕ → ℕ → List ℕ
number_label_text name n = codes "{" ++ name ++ codes "=\"" ++ decimal n ++ codes "\"}"

abbrev pub labels_text : Labels → List ℕ
labels_text Absent = []
labels_text (One name value) = codes "{" ++ label_text name.now value.now ++ codes "}"
labels_text (Two name value second_name second_value) =
    codes "{" ++ label_text name.now value.now ++ codes "," ++ label_text second_name.now second_value.now ++ codes "}"
labels_text (Number name n) = number_label_text name.now n

-- the six digits of a number below 1,000,000
unfoldable pub six_digits : ℕ → List ℕ
six_digits n =
    (48 + n / 100000 % 10) ∷ (48 + n / 10000 % 10) ∷ (48 + n / 1000 % 10) ∷ (48 + n / 100 % 10) ∷ (48 + n / 10 % 10) ∷ (48 + n % 10) ∷ []

-- seconds, and what is beyond them in microseconds
unfoldable pub seconds_text : ℕ → ℕ → List ℕ
seconds_text seconds micros = decimal seconds ++ codes "." ++ six_digits micros

abbrev pub value_text : SampleValue → List ℕ
value_text (Count n) = decimal n
value_text (Millis n) = seconds_text (n / 1000) (n % 1000 * 1000)
value_text (Micros n) = seconds_text (n / 1000000) (n % 1000000)

-- a sample, as it is written: its labels and its number
pub record Told : Type 0 where
  pub labels : List ℕ
  pub value : List ℕ

unfoldable pub told : Sample → Told
told s = record { labels = labels_text s.labels; value = value_text s.value }

unfoldable pub sample_text : List ℕ → Told → List ℕ
sample_text name t = name ++ t.labels ++ codes " " ++ t.value ++ codes "\n"

-- what is told under one name
pub record Metric : Type 0 where
  pub name : MetricName
  pub samples : List Told

unfoldable pub heading_text : MetricName → List ℕ
heading_text m =
    codes "# HELP " ++ metric_name m ++ codes " " ++ metric_help m ++ codes "\n# TYPE " ++ metric_name m ++ codes " " ++ kind_word (metric_kind m) ++ codes "\n"

unfoldable pub metric_text : Metric → List ℕ
metric_text m = heading_text m.name ++ flat_map (sample_text (metric_name m.name)) m.samples

abbrev pub metrics_text : List Metric → List ℕ
metrics_text = flat_map metric_text

-- a metric of one number, without labels
unfoldable pub single : MetricName → List ℕ → Metric
single name value = record { name = name; samples = record { labels = []; value = value } ∷ [] }

-- a count with one label
unfoldable pub labelled : List ℕ → List ℕ → ℕ → Told
labelled name value n = record { labels = codes "{" ++ label_text name value ++ codes "}"; value = decimal n }

-- a count with two labels
unfoldable pub labelled_twice : List ℕ → List ℕ → List ℕ → List ℕ → ℕ → Told
labelled_twice name value second_name second_value n = record {
  labels = codes "{" ++ label_text name value ++ codes "," ++ label_text second_name second_value ++ codes "}";
  value = decimal n;
}
