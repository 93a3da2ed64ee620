mod Hand
