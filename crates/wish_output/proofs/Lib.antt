pub mod BeltLemmas
