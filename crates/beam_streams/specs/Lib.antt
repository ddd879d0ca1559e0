pub mod StreamsHistory
