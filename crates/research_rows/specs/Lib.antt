pub mod Research
